use Rattle.naga_flow.specs.Places.{reads_in}
use Rattle.naga_flow.specs.Readings.{constant_chains_in, emitted_in}
use Rattle.naga_arena.specs.Arena.{value_at}
use Rattle.std.proofs.Common.{refl}
use Rattle.naga_meaning.specs.Readings.{chains_in}
use Rattle.naga_meaning.proofs.IsClosedReadingLemmas.{closed-read, constant_chains_in-closed}
use Rattle.naga_meaning.proofs.ReadsDecideLemmas.{chains-read}
use Rattle.naga_wgsl.proofs.IsPureLemmas.{chain-pure, constant_chain-pure, pure-may_inline}
use Rattle.naga_wgsl.proofs.TextDoesLemmas.{meaning-written}
use Rattle.naga_wgsl.proofs.laws.texts.texts_keep_meanings.Goals as goal

pub returns-clause-chains : goal.returns-clause-chains
returns-clause-chains g c = λ inline function precede indices passes chosen look by steady turns start.
    let arena = function.expressions in
    meaning-written look by (chains_in arena) inline function precede (reads_in arena) (chains-read look by arena precede indices)
    (pure-may_inline look by (chains_in arena) inline arena steady (λ x is. chain-pure arena x is (value_at arena x) refl) chosen) passes turns start

pub returns-clause-narrow : goal.returns-clause-narrow
returns-clause-narrow g c = λ at_use inline function precede passes chosen look by steady turns start.
    let arena = function.expressions in
    let closed = constant_chains_in-closed at_use arena precede in
    meaning-written look by (constant_chains_in at_use arena) inline function precede (emitted_in at_use arena).reads (closed-read look by (constant_chains_in at_use arena) arena precede closed)
    (pure-may_inline look by (constant_chains_in at_use arena) inline arena steady (constant_chain-pure at_use arena) chosen) passes turns start
