use Rattle.std.proofs.Common.{subst, refl, ℕ, Bool}
use Rattle.std.specs.FinSet.{contains}
use Rattle.naga_arena.specs.Arena.{value_at}
use Rattle.naga_flow.specs.Places.{reads_in}
use Rattle.naga_meaning.specs.Readings.{by_chains, chains_in, read_by}
use Rattle.naga_meaning.specs.Functions.{meaning}
use Rattle.naga_meaning.proofs.ReadsDecideLemmas.{chains-read, ready_is_at_use}
use Rattle.naga_wgsl.specs.Lowering.{begun, text_of_reading}
use Rattle.naga_wgsl.specs.Scopes.{Leaves, text_does}
use Rattle.naga_wgsl.proofs.InlinePartLemmas.{inline_part, part-chosen, with_inline-part}
use Rattle.naga_wgsl.proofs.IsPureLemmas.{chain-pure, pure-may_inline}
use Rattle.naga_wgsl.proofs.TextDoesLemmas.{evaluated-ready, text-does}
use Rattle.naga_wgsl.proofs.laws.texts.written_texts_do_what_functions_do.Goals as goal

pub returns : goal.returns
returns g c = λ same name distinct function written precede indices passes are look by steady turns names start.
    let arena = function.expressions in
    let inline : ℕ → Bool = inline_part arena (contains written.members) in
    let whole =
    text-does look by (chains_in arena) inline function precede (reads_in arena) (chains-read look by arena precede indices)
    (pure-may_inline look by (chains_in arena) inline arena steady (λ x is. chain-pure arena x is (value_at arena x) refl) (part-chosen function written are)) passes same name distinct
    (λ x is. ready_is_at_use look by arena precede indices x (evaluated-ready (value_at arena x) is)) turns names start
    in
    subst
    (λ (w : ℕ → Bool). Leaves same by (text_does same by turns (text_of_reading name look (read_by w function)) names (begun look by (read_by w function) start)) (meaning look by turns (by_chains function) start))
    (with_inline-part function written are) whole
