use Rattle.std.proofs.Common.{◌≡◌, map}
use Rattle.indexmap.specs.IndexMap.{values}
use Rattle.naga_valid.specs.declared.reference.Reference.TheVariants.{«Type»}
use Rattle.naga_compact.specs.Module.Visits.{visits}
use Rattle.naga_compact.proofs.module.roots.visit_special_types.Given as goal

abbrev pub invariant-loop-ty : goal.invariant-loop-ty
invariant-loop-ty l = visits l.tracer (map «Type» l.ty-iterator) ≡ visits l.initial.tracer (map «Type» (values l.types.predeclared_types))
