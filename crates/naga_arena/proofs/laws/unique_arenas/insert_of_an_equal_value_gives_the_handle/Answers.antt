use Rattle.std.proofs.Common.{◌≡◌, ℕ, Result, Ok, Err, IsOk, IfOk, Some, ap, true≢false, sym}
use Rattle.naga_arena.specs.Arena.{handle_of}
use Rattle.naga_arena.proofs.HasDistinctValuesLemmas.{position-handle}
use Rattle.naga_arena.proofs.laws.unique_arenas.insert_of_an_equal_value_gives_the_handle.Goals as goal

-- an `Ok` that can only contain `n` is `Ok n`
same_ok : {E : Type 0} → (r : Result ℕ E) (n : ℕ) → IsOk r → IfOk r (λ m. m ≡ n) → r ≡ Ok n
same_ok (Ok m) n ok same = ap Ok same
same_ok (Err e) n ok same = absurd (true≢false (sym ok))

pub returns : goal.returns
returns g c = λ old new handle stored value result distinct at same found given kept.
    let here : handle_of g.T.PartialEq.eq old value ≡ Some handle = position-handle g.met.T.Eq.laws _ distinct handle stored value at same in
    (same_ok _ _ (rw here at found) (rw here at given), rw here at kept)
