use Rattle.std.proofs.Common.{◌≡◌, ◌++◌, List, length, map}
use Rattle.std.specs.Option.{option_copied}
use Rattle.std.specs.Vec.Iter.{into_iter_items, into_iter_len}
use Rattle.kx_include.specs.Held.{file_by}
use Rattle.kx_include.specs.Library.{Text}
use Rattle.kx_include.proofs.Answering.{AreAnswers}
use Rattle.kx_include.proofs.sources.Library.with_statements.Given as goal

abbrev pub invariant-texts : goal.invariant-texts
invariant-texts l =
    (goal.iterator-texts).can_next l.text-iterator
    × (goal.iterator-texts).is_finite l.text-iterator
    × (into_iter_len l.text-iterator ≡ length (into_iter_items l.text-iterator))
    × ((before : List Text) × (before ++ into_iter_items l.text-iterator ≡ l.fn.self.texts)
    × (length before ≡ l.number)
    × AreAnswers l.wanted (file_by (map option_copied l.outlines)) 0 before l.held.items)
