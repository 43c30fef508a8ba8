use Rattle.std.proofs.Common.{[], refl}
use Rattle.kx_merge.proofs.Behind.{shows_none}
use Rattle.kx_merge.proofs.gathering.gather_map.Goals as goal

pub returns : goal.returns
returns g c = λ bodies are.
    let h = c.in_ok-merge_map.ensures bodies are in
    (h.shows [] (shows_none g.R.Fields.form g.R.Key.PartialEq.eq c.new_walk-walk.result.merged.records [] c.new_walk-walk.ensures refl), h.faultless)
