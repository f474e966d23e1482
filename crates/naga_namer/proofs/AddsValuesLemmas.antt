-- Names for all values of an arena were added.
use Rattle.std.proofs.Common.{◌≡◌, ℕ, ◌≤◌, List, length, arith, take}
use Rattle.std.proofs.lemmas.List.{length-map}
use Rattle.naga_arena.specs.Arena.{values}
use Rattle.naga_arena.specs.declared.span.Span.{Span}
use Rattle.naga_namer.specs.Declarations.{Declaration, Entry, each}
use Rattle.naga_namer.specs.ModuleNames.{AddsNames, AddsScopes}
use Rattle.naga_namer.specs.Names.{Naming, Reserved}
use Rattle.naga_namer.proofs.AddsNamesLemmas.{adds-all, adds-all-scopes}

past-values : {T : Type 0} (arena : List (T × Span)) (i : ℕ) → length arena ≤ i → length (values arena) ≤ i
past-values {T} arena i past =
    let same : length (values arena) ≡ length arena = length-map arena (λ (p : T × Span). p.0) in omega arith

pub adds-all-values : {T : Type 0} (make : ℕ → T → List Declaration) (arena : List (T × Span)) (i : ℕ) (before after : Naming) (old new : List Entry)
    → length arena ≤ i → AddsNames before old (each make 0 (take i (values arena))) after new → AddsNames before old (each make 0 (values arena)) after new
adds-all-values make arena i before after old new past = adds-all make (values arena) i before after old new (past-values arena i past)

pub adds-all-value-scopes : {T : Type 0} (make : ℕ → T → List (List Declaration)) (arena : List (T × Span)) (i : ℕ) (reserved : Reserved) (old new : List Entry)
    → length arena ≤ i → AddsScopes reserved old (each make 0 (take i (values arena))) new → AddsScopes reserved old (each make 0 (values arena)) new
adds-all-value-scopes make arena i reserved old new past = adds-all-scopes make (values arena) i reserved old new (past-values arena i past)
