use Rattle.std.proofs.Common.{◌≡◌, ◌++◌}
use Rattle.std.specs.Prelude.{flat_map}
use Rattle.std.specs.List.{enumerate_from}
use Rattle.naga_arena.specs.Arena.{values}
use Rattle.naga_text.proofs.element.push_arena.Given as goal

-- the elements that are left are still to be written
abbrev pub invariant-loop-handle : goal.invariant-loop-handle
invariant-loop-handle g l =
    l.text ++ flat_map g.T.Element.lines l.handle-iterator
    ≡ l.initial.text ++ flat_map g.T.Element.lines (enumerate_from 0 (values l.arena))
