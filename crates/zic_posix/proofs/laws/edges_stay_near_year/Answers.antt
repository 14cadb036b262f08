use Rattle.zic_posix.proofs.Edges.{daylight_is, offset_within, daylight_within, instant_in-near}
use Rattle.zic_posix.proofs.laws.edges_stay_near_year.Goals as goal

pub returns : goal.returns
returns c = record {
  starts = λ f dst year is e. instant_in-near dst.start f.offset year (daylight_is f dst is e).start (offset_within f.offset is.offset);
  stops = λ f dst year is e. instant_in-near dst.stop dst.offset year (daylight_is f dst is e).stop (daylight_within f.offset dst is.offset (daylight_is f dst is e));
}
