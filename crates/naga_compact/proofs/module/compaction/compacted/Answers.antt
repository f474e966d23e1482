use Rattle.std.proofs.Common.{sym, subst}
use Rattle.naga_valid.specs.Valid.{HandlesAreValid}
use Rattle.naga_compact.specs.Module.Compaction.{kept_handles}
use Rattle.naga_compact.specs.Module.Used.{AreUsed}
use Rattle.naga_compact.proofs.CompactsFunctionsLemmas.{HandlesAreValid-compacted_functions}
use Rattle.naga_compact.proofs.KeptTypesLemmas.{TypesAreClosed-of}
use Rattle.naga_compact.proofs.SizePrecedesLemmas.{HandlesAreValid-removed}
use Rattle.naga_compact.proofs.module.compaction.compacted.Goals as goal

pub remove_elements-requires : goal.remove_elements-requires
remove_elements-requires c =
    let middle = c.compact_functions.new.module in
    let kept = c.in_ok-renumbering.renumbering in
    let used : AreUsed middle c.args.keep_unused (kept_handles kept) = subst (AreUsed middle c.args.keep_unused) (sym c.in_ok-renumbering.ensures) c.in_ok-used.ensures in
    let valid : HandlesAreValid middle = HandlesAreValid-compacted_functions c.args.whole middle c.in_ok-compact_functions.ensures.compacted c.requires.valid in
    record { closed = TypesAreClosed-of middle c.args.keep_unused kept used valid }

pub returns-clause-compacted : goal.returns-clause-compacted
returns-clause-compacted c =
    let middle = c.compact_functions.new.module in
    record {
      middle = middle;
      functions = c.in_ok-compact_functions.ensures.compacted;
      used = subst (AreUsed middle c.args.keep_unused) (sym c.in_ok-renumbering.ensures) c.in_ok-used.ensures;
      removed = c.in_ok-remove_elements.ensures;
    }

pub returns-clause-valid : goal.returns-clause-valid
returns-clause-valid c =
    let middle = c.compact_functions.new.module in
    let kept = c.in_ok-renumbering.renumbering in
    let used : AreUsed middle c.args.keep_unused (kept_handles kept) = subst (AreUsed middle c.args.keep_unused) (sym c.in_ok-renumbering.ensures) c.in_ok-used.ensures in
    let valid : HandlesAreValid middle = HandlesAreValid-compacted_functions c.args.whole middle c.in_ok-compact_functions.ensures.compacted c.requires.valid in
    HandlesAreValid-removed middle c.remove_elements.new.module c.args.keep_unused kept used c.in_ok-remove_elements.ensures valid
