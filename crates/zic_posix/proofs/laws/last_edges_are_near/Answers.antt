use Rattle.zic_posix.proofs.Edges.{daylight_is, offset_within, daylight_within}
use Rattle.zic_posix.proofs.Lasts.{last_near}
use Rattle.zic_posix.proofs.laws.last_edges_are_near.Goals as goal

pub returns : goal.returns
returns c = record {
  starts = λ f dst year t is e here. last_near dst.start f.offset t year (daylight_is f dst is e).start (offset_within f.offset is.offset) here;
  stops = λ f dst year t is e here. last_near dst.stop dst.offset t year (daylight_is f dst is e).stop (daylight_within f.offset dst is.offset (daylight_is f dst is e)) here;
}
