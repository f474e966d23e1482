use Rattle.std.proofs.Common.{◌≡◌, ◌⊎◌, inl, inr, true, false, refl}
use Rattle.std.proofs.lemmas.Bool.{and_parts}
use Rattle.naga_runs.specs.declared.run.Ending.{Ending}
use Rattle.naga_runs.specs.declared.run.Ending.TheVariants.{Normal, Break, Continue, Return, Kill, Cut}
use Rattle.naga_flow.specs.Structured.{in_body_of_loop, is_structured, may_end, of_continuing}
use Rattle.naga_flow.proofs.StructuredLemmas.{BlockRuns-may_end}
use Rattle.naga_flow.proofs.laws.no_jump_leaves_a_continuing_block.Goals as goal

goes_on_or_ends : (e : Ending) → may_end of_continuing e ≡ true → (e ≡ Normal) ⊎ (e ≡ Cut)
goes_on_or_ends Normal h = inl refl
goes_on_or_ends Break h = absurd (let q : false ≡ true = h in cc)
goes_on_or_ends Continue h = absurd (let q : false ≡ true = h in cc)
goes_on_or_ends (Return value) h = absurd (let q : false ≡ true = h in cc)
goes_on_or_ends Kill h = absurd (let q : false ≡ true = h in cc)
goes_on_or_ends Cut h = inr refl

pub returns : goal.returns
returns c around body continuing break_if turns answers run h d =
    let parts = and_parts (is_structured (in_body_of_loop around) body) (is_structured of_continuing continuing) h in
    goes_on_or_ends run.ending (BlockRuns-may_end of_continuing d parts.1)
