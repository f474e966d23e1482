use Rattle.std.proofs.Common.{refl}
use Rattle.naga_arena.specs.Arena.{value_at}
use Rattle.naga_flow.specs.Places.{reads_in}
use Rattle.naga_flow.specs.Readings.{constant_chains_in, emitted_in}
use Rattle.naga_meaning.specs.Readings.{chains_in}
use Rattle.naga_meaning.proofs.IsClosedReadingLemmas.{closed-read, constant_chains_in-closed}
use Rattle.naga_meaning.proofs.ReadsDecideLemmas.{chains-read, ready_is_at_use}
use Rattle.naga_wgsl.proofs.IsPureLemmas.{chain-pure, constant_chain-pure, pure-may_inline}
use Rattle.naga_wgsl.proofs.TextDoesLemmas.{evaluated-ready, text-does}
use Rattle.naga_wgsl.proofs.laws.texts.texts_do_what_functions_do.Goals as goal

pub returns-clause-chains : goal.returns-clause-chains
returns-clause-chains g c = λ same name distinct inline function precede indices passes chosen look by steady turns names start.
    let arena = function.expressions in
    text-does look by (chains_in arena) inline function precede (reads_in arena) (chains-read look by arena precede indices)
    (pure-may_inline look by (chains_in arena) inline arena steady (λ x is. chain-pure arena x is (value_at arena x) refl) chosen) passes same name distinct
    (λ x is. ready_is_at_use look by arena precede indices x (evaluated-ready (value_at arena x) is)) turns names start

pub returns-clause-narrow : goal.returns-clause-narrow
returns-clause-narrow g c = λ same name distinct at_use inline function precede passes chosen look by steady turns names start.
    let arena = function.expressions in
    let closed = constant_chains_in-closed at_use arena precede in
    text-does look by (constant_chains_in at_use arena) inline function precede (emitted_in at_use arena).reads (closed-read look by (constant_chains_in at_use arena) arena precede closed)
    (pure-may_inline look by (constant_chains_in at_use arena) inline arena steady (constant_chain-pure at_use arena) chosen) passes same name distinct
    (λ x is. closed.ready x (evaluated-ready (value_at arena x) is)) turns names start
