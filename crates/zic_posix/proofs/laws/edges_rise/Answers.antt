use Rattle.zic_posix.proofs.Edges.{daylight_is, instant_in-rises}
use Rattle.zic_posix.proofs.laws.edges_rise.Goals as goal

pub returns : goal.returns
returns c = record {
  starts = λ f dst a b is e lt. instant_in-rises dst.start f.offset a b (daylight_is f dst is e).start lt;
  stops = λ f dst a b is e lt. instant_in-rises dst.stop dst.offset a b (daylight_is f dst is e).stop lt;
}
