use Rattle.std.proofs.Common.{◌≡◌, ◌++◌, drop}
use Rattle.std.specs.Prelude.{flat_map}
use Rattle.std.specs.List.{enumerate_from}
use Rattle.naga_text.proofs.element.push_list.Given as goal

-- the elements that are left are still to be written
abbrev pub invariant-loop-index : goal.invariant-loop-index
invariant-loop-index g l =
    l.text ++ flat_map g.T.Element.lines (enumerate_from l.index (drop l.index l.list))
    ≡ l.initial.text ++ flat_map g.T.Element.lines (enumerate_from 0 l.list)
