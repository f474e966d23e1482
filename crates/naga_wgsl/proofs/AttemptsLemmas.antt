-- Attempts to append a text, made of other ones.
use Rattle.std.proofs.Common.{◌≡◌, ◌∙◌, refl, sym, ap, inl, inr, subst, ℕ, List, [], ◌++◌, Result, Ok, Err, append_assoc}
use Rattle.std.specs.Prelude.{OnOk}
use Rattle.naga_wgsl.specs.Operations.{between, followed}
use Rattle.naga_wgsl.specs.WriteError.{Attempts, Writes}
use Rattle.naga_wgsl.specs.declared.write_error.Cause.{Cause}
use Rattle.naga_wgsl.specs.declared.write_error.WriteError.{WriteError}
use Rattle.naga_wgsl.specs.declared.write_error.WriteError.TheVariants.{Memory, Inexpressible}

err-same : {A : Type 0} (x y : WriteError) (result : Result A WriteError) → Err x ≡ result → result ≡ Err y → x ≡ y
err-same x y result first second = cc

cause-same : (x y : Cause) → Inexpressible x ≡ Inexpressible y → x ≡ y
cause-same x y same = cc

-- what appends a text, or nothing, is an attempt
pub attempts_written : {A : Type 0} (wanted : Result (List ℕ) Cause) (old new : List ℕ) (result : Result A WriteError)
    → Writes wanted old new result → Attempts wanted old new result
attempts_written (Ok text) old new (Ok x) is = record { written = (text, refl, is); stopped = tt }
attempts_written (Ok text) old new (Err error) is = record { written = tt; stopped = inl is }
attempts_written (Err cause) old new (Ok x) is = let no : Ok x ≡ Err (Inexpressible cause) = is.0 in cc
attempts_written (Err cause) old new (Err error) is = record {
  written = tt;
  stopped = inr (cause, err-same error (Inexpressible cause) (Err error) refl is.0, refl);
}

-- the same, of an equal text
pub attempts-as : {A : Type 0} (wanted part : Result (List ℕ) Cause) (old new : List ℕ) (result : Result A WriteError)
    → wanted ≡ part → Writes part old new result → Attempts wanted old new result
attempts-as wanted part old new result same is =
    let attempt : Attempts part old new result = attempts_written part old new result is in subst (λ text. Attempts text old new result) (sym same) attempt

-- an attempt that stopped where another one did, which lacks what that one lacks
pub attempts-stopped : {A B : Type 0} (wanted part : Result (List ℕ) Cause) (old new start middle : List ℕ) (error : WriteError)
    → ((cause : Cause) → part ≡ Err cause → wanted ≡ Err cause)
    → Attempts {A = A} part start middle (Err error) → Attempts {A = B} wanted old new (Err error)
attempts-stopped wanted part old new start middle error lacks done = record {
  written = tt;
  stopped =
      elim done.stopped [
        | inl is ↦ inl is
        | inr found ↦ inr (found.0, found.1, lacks found.0 found.2)
      ];
}

-- the text of an attempt that succeeded, from nothing
pub attempted-text : {A : Type 0} (wanted : Result (List ℕ) Cause) (old new : List ℕ) (x : A) → old ≡ []
    → Attempts {A = A} wanted old new (Ok x) → Ok new ≡ wanted
attempted-text wanted old new x empty done =
    ap Ok (done.written.2 ∙ ap (λ front. front ++ done.written.0) empty) ∙ sym done.written.1

-- the cause for which an attempt stopped
pub attempted-cause : {A : Type 0} (wanted : Result (List ℕ) Cause) (old new : List ℕ) (error : WriteError) (cause : Cause)
    → error ≡ Inexpressible cause → Attempts {A = A} wanted old new (Err error) → Err cause ≡ wanted
attempted-cause wanted old new error cause is done =
    elim done.stopped [
      | inl memory ↦ let no : Inexpressible cause ≡ Memory = sym is ∙ memory in cc
      | inr found ↦ ap Err (cause-same cause found.0 (sym is ∙ found.1)) ∙ sym found.2
    ]

-- one attempt after another one
pub attempts-followed : {A B : Type 0} (front back : Result (List ℕ) Cause) (old middle new : List ℕ) (x : A) (result : Result B WriteError)
    → Attempts front old middle (Ok x) → Attempts back middle new result → Attempts (followed front back) old new result
attempts-followed front back old middle new x (Ok y) first second = record {
  written = (
    first.written.0 ++ second.written.0,
    ap (λ (t : Result (List ℕ) Cause). followed t back) first.written.1 ∙ ap (followed (Ok first.written.0)) second.written.1,
    second.written.2 ∙ ap (λ t. t ++ second.written.0) first.written.2 ∙ append_assoc old first.written.0 second.written.0,
  );
  stopped = tt;
}
attempts-followed front back old middle new x (Err error) first second =
    attempts-stopped (followed front back) back old new middle new error
    (λ cause lacks. ap (λ (t : Result (List ℕ) Cause). followed t back) first.written.1 ∙ ap (followed (Ok first.written.0)) lacks)
    second

-- an attempt whose first part stopped
pub attempts-front : {A B : Type 0} (front back : Result (List ℕ) Cause) (old middle new : List ℕ) (error : WriteError)
    → Attempts {A = A} front old middle (Err error) → Attempts {A = B} (followed front back) old new (Err error)
attempts-front front back old middle new error first =
    attempts-stopped (followed front back) front old new old middle error
    (λ cause lacks. ap (λ (t : Result (List ℕ) Cause). followed t back) lacks) first

-- an attempt between two texts
pub attempts-between : {A B : Type 0} (front back : List ℕ) (part same : Result (List ℕ) Cause) (old start middle new : List ℕ) (x : A) (y : B)
    → part ≡ same → start ≡ old ++ front → Attempts {A = A} same start middle (Ok x) → new ≡ middle ++ back
    → Attempts {A = B} (between front part back) old new (Ok y)
attempts-between front back part same old start middle new x y is first done last = record {
  written = (
    front ++ (done.written.0 ++ back),
    ap (λ (t : Result (List ℕ) Cause). between front t back) (is ∙ done.written.1),
    last
        ∙ ap (λ t. t ++ back) (done.written.2 ∙ ap (λ t. t ++ done.written.0) first ∙ append_assoc old front done.written.0)
        ∙ append_assoc old (front ++ done.written.0) back
        ∙ ap (λ t. old ++ t) (append_assoc front done.written.0 back),
  );
  stopped = tt;
}

pub attempts-between-stopped : {A B : Type 0} (front back : List ℕ) (part same : Result (List ℕ) Cause) (old new start middle : List ℕ) (error : WriteError)
    → part ≡ same → Attempts {A = A} same start middle (Err error) → Attempts {A = B} (between front part back) old new (Err error)
attempts-between-stopped front back part same old new start middle error is done =
    attempts-stopped (between front part back) same old new start middle error
    (λ cause lacks. ap (λ (t : Result (List ℕ) Cause). between front t back) (is ∙ lacks)) done

-- a text has been pushed behind another one, if the second push succeeded
pub pushed-behind : {A E : Type 0} (result : Result A E) (old a b middle new : List ℕ) → middle ≡ old ++ a → OnOk result (new ≡ middle ++ b)
    → OnOk result (new ≡ old ++ (a ++ b))
pushed-behind (Ok x) old a b middle new first last = last ∙ ap (λ t. t ++ b) first ∙ append_assoc old a b
pushed-behind (Err error) old a b middle new first last = tt
