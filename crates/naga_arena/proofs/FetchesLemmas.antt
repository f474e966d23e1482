-- The result of fetching with a deterministic test.
use Rattle.std.proofs.Common.{◌≡◌, ℕ, Bool, List, inl, inr, Some, None, Result, Ok, position, ap, sym, ◌∙◌}
use Rattle.std.specs.Prelude.{unwrap_or}
use Rattle.naga_arena.specs.Arena.{Appends, Fetches, values}
use Rattle.naga_arena.specs.declared.arena.ArenaError.{ArenaError}
use Rattle.naga_arena.specs.declared.span.Span.{Span}
use Rattle.naga_arena.proofs.PositionLemmas.{position-first, position-none}

module _ {T : Type 0} (test : T → Bool) (old : List (T × Span)) (value : T) (span : Span) (result : Result ℕ ArenaError) (new : List (T × Span)) where
  pub Fetches-found : (handle : ℕ) → Fetches (λ other answer. answer ≡ test other) old value span result new → position test (values old) ≡ Some handle → (result ≡ Ok handle) × (new ≡ old)
  Fetches-found handle (inl (given, ok, first, same)) at =
      let there = position-first test (values old) given first.found.0 first.found.1 first.before first.found.2 in
      let equal : given ≡ handle = ap (λ found. unwrap_or found 0) (sym there ∙ at) in
      (ok ∙ ap Ok equal, same)
  Fetches-found handle (inr (fails, appends)) at =
      let none = position-none test (values old) fails in
      let clash : ⊥ = cc in
      absurd clash

  pub Fetches-missing : Fetches (λ other answer. answer ≡ test other) old value span result new → position test (values old) ≡ None → Appends old value span result new
  Fetches-missing (inl (given, ok, first, same)) none =
      let there = position-first test (values old) given first.found.0 first.found.1 first.before first.found.2 in
      let clash : ⊥ = cc in
      absurd clash
  Fetches-missing (inr (fails, appends)) none = appends
