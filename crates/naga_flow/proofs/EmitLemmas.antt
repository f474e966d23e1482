-- Walks over the expressions that a statement evaluates.
use Rattle.std.proofs.Common.{◌≡◌, ℕ, suc, ◌+◌, ◌-◌, ◌<◌, ◌≤◌, ◌⊎◌, inl, inr, List, [], ◌∷◌, ◌++◌, append-nil, append_assoc, Option, Some, Result, refl, sym, ◌∙◌, ap, subst, arith, option_to_list}
use Rattle.std.proofs.lemmas.List.Elements.{All-append, All-nil}
use Rattle.std.specs.List.{Contains, range_with_len}
use Rattle.naga_arena.specs.declared.span.Span.{Span}
use Rattle.naga_ir.specs.declared.statement.Statement.{Statement, Emit}
use Rattle.naga_flow.specs.Misuses.{EmitMisuse, IsAt, IsRepeated, IsUnfit, IsUnread, Judged, ResultMisuse}
use Rattle.naga_flow.specs.Results.{emitted_by, evaluated_by, evaluation_by, result_of, used_by}
use Rattle.naga_flow.specs.Scopes.{AreNew}
use Rattle.naga_flow.specs.Tracking.{Seen, all_known, known_of, scope_of}
use Rattle.naga_flow.specs.Uses.{AreEvaluatedBy, Expressions, MayUseEach, OperandsAreKnown, PlainUsesKnown}
use Rattle.naga_flow.specs.declared.evaluation.Evaluation.{Evaluation}
use Rattle.naga_flow.specs.declared.evaluation.Evaluation.TheVariants as by
use Rattle.naga_flow.specs.declared.invalid_use.InvalidUse.{InvalidUse}
use Rattle.naga_flow.specs.declared.invalid_use.Misuse.{Misuse}
use Rattle.naga_flow.proofs.MisusesLemmas.{EmitMisuse-same, Judged-mapped}
use Rattle.naga_flow.proofs.ScopesLemmas.{AreNew-append, AreNew-fewer}
use Rattle.naga_flow.proofs.SeenLemmas.{known-after, scope-after}
use Rattle.naga_flow.proofs.UsesKnownLemmas.{OperandsAreKnown-more}

-- the numbers from one on, before another
pub range-next : (at past : ℕ) → at < past → range_with_len at (past - at) ≡ at ∷ range_with_len (at + 1) (past - (at + 1))
range-next at past less = let one_more : past - at ≡ suc (past - (at + 1)) = omega (arith, less) in ap (range_with_len at) one_more

pub range-end : (at past : ℕ) → past ≤ at → range_with_len at (past - at) ≡ []
range-end at past h = let none : past - at ≡ 0 = omega (arith, h) in ap (range_with_len at) none

-- the expressions before `rest` have been evaluated
pub record IsEmitted (expressions : Expressions) (old new : List Seen) (whole rest : List ℕ) : Type 0 where
  pub operands : OperandsAreKnown expressions (known_of new) rest → OperandsAreKnown expressions (known_of old) whole
  pub fit : AreEvaluatedBy expressions by.Emit rest → AreEvaluatedBy expressions by.Emit whole
  pub fresh : AreNew (scope_of new) rest → AreNew (scope_of old) whole
  pub misuse : (misuse : Misuse) → EmitMisuse expressions (known_of new) (scope_of new) rest misuse → EmitMisuse expressions (known_of old) (scope_of old) whole misuse
  pub is : new ++ all_known rest ≡ old ++ all_known whole

module _ (expressions : Expressions) where
  pub IsEmitted-start : (old : List Seen) (whole : List ℕ) → IsEmitted expressions old old whole whole
  IsEmitted-start old whole = record { operands = λ h. h; fit = λ h. h; fresh = λ h. h; misuse = λ misuse h. h; is = refl }

  module _ (old new : List Seen) (whole now rest : List ℕ) (x : ℕ) (is : now ≡ x ∷ rest) (so : IsEmitted expressions old new whole now) where
    at : IsEmitted expressions old new whole (x ∷ rest)
    at = subst (λ xs. IsEmitted expressions old new whole xs) is so

    pub IsEmitted-next : (newer : List Seen) → AreEvaluatedBy expressions by.Emit (x ∷ []) → MayUseEach expressions (known_of new) (expressions.operands x) → ¬ Contains (scope_of new) x →
        newer ≡ new ++ all_known (x ∷ []) → IsEmitted expressions old newer whole rest
    IsEmitted-next newer fit used absent learnt =
        let same = known-after new newer (x ∷ []) learnt in
        let same_scope = scope-after new newer (x ∷ []) learnt in record {
          operands = λ h. at.operands (used, OperandsAreKnown-more expressions (known_of newer) (x ∷ known_of new) same.back rest h);
          fit = λ h. at.fit (All-append (λ handle. expressions.evaluation handle ≡ Some by.Emit) (x ∷ []) rest fit h);
          fresh = λ h. at.fresh (absent, AreNew-fewer (scope_of newer) (x ∷ scope_of new) rest same_scope.there h);
          misuse = λ misuse h. at.misuse misuse (inr (
            fit,
            inr (used, inr (absent, EmitMisuse-same expressions misuse (known_of newer) (x ∷ known_of new) (scope_of newer) (x ∷ scope_of new) rest same same_scope h)),
          ));
          is = ap (λ front. front ++ all_known rest) learnt ∙ (append_assoc new (all_known (x ∷ [])) (all_known rest) ∙ at.is);
        }

    pub IsEmitted-fails : (misuse : Misuse) → IsUnfit expressions by.Emit (x ∷ []) misuse
        ⊎ (AreEvaluatedBy expressions by.Emit (x ∷ [])
        × (IsUnread expressions (known_of new) (expressions.operands x) misuse
        ⊎ (MayUseEach expressions (known_of new) (expressions.operands x) × IsRepeated (scope_of new) (x ∷ []) misuse))) →
        EmitMisuse expressions (known_of old) (scope_of old) whole misuse
    IsEmitted-fails misuse (inl unfit) = at.misuse misuse (inl unfit)
    IsEmitted-fails misuse (inr (fit, inl unread)) = at.misuse misuse (inr (fit, inl unread))
    IsEmitted-fails misuse (inr (fit, inr (used, repeated))) = at.misuse misuse (inr (fit, inr (used, inl repeated)))

  pub IsEmitted-end : (old new : List Seen) (whole now : List ℕ) → now ≡ [] → IsEmitted expressions old new whole now →
      OperandsAreKnown expressions (known_of old) whole × AreEvaluatedBy expressions by.Emit whole × AreNew (scope_of old) whole × (new ≡ old ++ all_known whole)
  IsEmitted-end old new whole now is so =
      let done : IsEmitted expressions old new whole [] = subst (λ xs. IsEmitted expressions old new whole xs) is so in
      (done.operands tt, done.fit (All-nil (λ handle. expressions.evaluation handle ≡ Some by.Emit)), done.fresh tt, sym (append-nil new) ∙ done.is)

  -- what a statement emits is evaluated by such a statement
  emitted-fit : (what : Statement) → AreEvaluatedBy expressions by.Emit (emitted_by what) → AreEvaluatedBy expressions (evaluation_by what) (emitted_by what)
  emitted-fit (Emit range) h = h
  emitted-fit what h = All-nil (λ handle. expressions.evaluation handle ≡ Some (evaluation_by what))

  -- the parts of a walk over a plain statement
  module _ (old : List ℕ) (what : Statement) where
    pub PlainUsesKnown-walked : MayUseEach expressions old (used_by what) → OperandsAreKnown expressions old (emitted_by what) → AreEvaluatedBy expressions by.Emit (emitted_by what) →
        AreEvaluatedBy expressions (evaluation_by what) (option_to_list (result_of what)) → PlainUsesKnown expressions old what
    PlainUsesKnown-walked used operands fit result_fit = record {
      used = used;
      operands = operands;
      evaluated = All-append (λ handle. expressions.evaluation handle ≡ Some (evaluation_by what)) (emitted_by what) (option_to_list (result_of what)) (emitted-fit what fit) result_fit;
    }

  pub evaluated-new : (old emitted : List Seen) (what : Statement) → emitted ≡ old ++ all_known (emitted_by what) → AreNew (scope_of old) (emitted_by what) →
      AreNew (scope_of emitted) (option_to_list (result_of what)) → AreNew (scope_of old) (evaluated_by what)
  evaluated-new old emitted what first new new_too =
      AreNew-append (scope_of old) (emitted_by what) (option_to_list (result_of what)) new
      (AreNew-fewer (scope_of emitted) (emitted_by what ++ scope_of old) (option_to_list (result_of what)) (scope-after old emitted (emitted_by what) first).there new_too)

  -- a misuse of the result of a statement that emits nothing
  pub result-misuse : (old emitted : List Seen) (what : Statement) → emitted ≡ old ++ all_known (emitted_by what) → (misuse : Misuse) →
      ResultMisuse expressions (evaluation_by what) (scope_of emitted) (option_to_list (result_of what)) misuse →
      ResultMisuse expressions (evaluation_by what) (scope_of old) (option_to_list (result_of what)) misuse
  result-misuse old emitted (Emit range) first misuse (inl unfit) = inl unfit
  result-misuse old emitted (Emit range) first misuse (inr (fit, repeated)) = absurd (omega (arith, repeated.one_of.1))
  result-misuse old emitted what first misuse h =
      subst (λ scope. ResultMisuse expressions (evaluation_by what) scope (option_to_list (result_of what)) misuse) (ap scope_of (first ∙ append-nil old)) h

  -- what was found of the result of a statement
  pub result-judged : (number : ℕ) (span : Span) (old new : List Seen) (way : Evaluation) (found : Option ℕ) (x : ℕ) → found ≡ Some x → AreEvaluatedBy expressions way (x ∷ []) →
      (result : Result (Unit {0}) InvalidUse) →
      Judged result (λ _. ¬ Contains (scope_of old) x × (new ≡ old ++ all_known (x ∷ []))) (λ misuse. IsAt number span misuse × IsRepeated (scope_of old) (x ∷ []) misuse) →
      Judged result (λ _. AreEvaluatedBy expressions way (option_to_list found) × AreNew (scope_of old) (option_to_list found) × (new ≡ old ++ all_known (option_to_list found)))
      (λ misuse. IsAt number span misuse × ResultMisuse expressions way (scope_of old) (option_to_list found) misuse)
  result-judged number span old new way found x is fit result h =
      subst (λ found. Judged result (λ _. AreEvaluatedBy expressions way (option_to_list found) × AreNew (scope_of old) (option_to_list found) × (new ≡ old ++ all_known (option_to_list found)))
      (λ misuse. IsAt number span misuse × ResultMisuse expressions way (scope_of old) (option_to_list found) misuse)) (sym is)
      (Judged-mapped result _ _ _ _ (λ _ k. (fit, (k.0, tt), k.1)) (λ misuse k. (k.0, inr (fit, k.1))) h)
