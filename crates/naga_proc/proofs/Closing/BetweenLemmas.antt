-- Closing a partly closed block, by the old rule or by the new one.
use Rattle.std.proofs.Common.{◌≡◌, inl, inr, true, false, refl, sym, ◌∙◌, ap, subst}
use Rattle.naga_ir.specs.Tree.{Tree, push, Node, Cases}
use Rattle.naga_proc.specs.Closing.{at_empty, stays, changes, InsideAre, in_plain, in_loop, in_jump, in_block, in_branch, in_cases, CaseTailsAre, no_more, falling, ending, returned, GetsReturn, MayGetReturn, Closed, ClosedBy, FullyClosed, Between, follows}
use Rattle.naga_proc.specs.declared.terminator.rule.Rule.{Rule}
use Rattle.naga_proc.specs.declared.terminator.rule.Rule.TheVariants.{New, Old}
use Rattle.naga_proc.proofs.Closing.FollowsLemmas.{follows-wider}
use Rattle.naga_proc.proofs.Closing.TailsAreLemmas.{MayGetReturn-AddsNoBreak, follows-InsideAre, InsideAre-open, InsideAre-open_itself, TailsAre-itself, TailsAre-wider}

-- ---- the blocks between a block and its closing include both of them

pub Between-itself : (b c : Tree) → c ≡ b → Between b c
Between-itself b c same = subst (λ t. Between b t) (sym same) (TailsAre-itself Old MayGetReturn b (λ tail among gets. inl refl))

pub ruleset between_itself = (Between-itself)

pub Closed-Between : (b c : Tree) → Closed b c → Between b c
Closed-Between b c h = TailsAre-wider (follows Old) GetsReturn MayGetReturn (λ b c p. inr p) h

-- ---- a partly closed block closes to the closing of the original block

ClosedBy-returned_stays : (rule : Rule) {b d : Tree} → ClosedBy rule (returned b) d → d ≡ returned b
ClosedBy-returned_stays rule (stays in_jump h) = refl
ClosedBy-returned_stays rule (changes in_jump h p) = absurd (let e : false ≡ true = h in cc)

mutual
  Between-then : (rule : Rule) {b c d : Tree} → Between b c → ClosedBy rule c d → ClosedBy rule b d
  Between-then rule {d = d} (at_empty (inl p)) k = subst (λ x. ClosedBy rule x d) p k
  Between-then rule {d = d} (at_empty (inr p)) k = at_empty (ClosedBy-returned_stays rule (subst (λ x. ClosedBy rule x d) p k))
  Between-then rule {d = d} (changes {front = f} {span = p} i h (inl q)) k =
      subst (λ x. ClosedBy rule x d) (q ∙ ap (λ x. push f x p) (InsideAre-open h i)) k
  Between-then rule {d = d} (changes {front = f} {last = s} {span = p} i h (inr q)) k =
      changes (InsideAre-open_itself (follows rule) GetsReturn s h) (follows-wider rule s h)
      (ClosedBy-returned_stays rule (subst (λ x. ClosedBy rule x d) (q ∙ ap (λ x. returned (push f x p)) (InsideAre-open h i)) k))
  Between-then rule (stays i h) (stays j k) = stays (InsideAre-then rule i j) (sym (follows-InsideAre rule MayGetReturn-AddsNoBreak i) ∙ k)
  Between-then rule (stays i h) (changes j k p) = changes (InsideAre-then rule i j) (sym (follows-InsideAre rule MayGetReturn-AddsNoBreak i) ∙ k) p

  InsideAre-then : (rule : Rule) {s t u : Node} → InsideAre (follows Old) MayGetReturn s t → InsideAre (follows rule) GetsReturn t u → InsideAre (follows rule) GetsReturn s u
  InsideAre-then rule in_plain j = j
  InsideAre-then rule in_loop j = j
  InsideAre-then rule in_jump j = j
  InsideAre-then rule (in_block x) (in_block y) = in_block (Between-then rule x y)
  InsideAre-then rule (in_branch x y) (in_branch z w) = in_branch (Between-then rule x z) (Between-then rule y w)
  InsideAre-then rule (in_cases x) (in_cases y) = in_cases (CaseTailsAre-then rule x y)

  CaseTailsAre-then : (rule : Rule) {cs ds es : Cases} → CaseTailsAre (follows Old) MayGetReturn cs ds → CaseTailsAre (follows rule) GetsReturn ds es → CaseTailsAre (follows rule) GetsReturn cs es
  CaseTailsAre-then rule no_more no_more = no_more
  CaseTailsAre-then rule (falling x) (falling y) = falling (CaseTailsAre-then rule x y)
  CaseTailsAre-then rule (ending x y) (ending z w) = ending (Between-then rule x z) (CaseTailsAre-then rule y w)

pub Between-Closed : (b c d : Tree) → Between b c → Closed c d → Closed b d
Between-Closed b c d h k = Between-then Old h k

-- ---- from the old rule to the new one

pub Between-FullyClosed : (b c d : Tree) → Between b c → FullyClosed c d → FullyClosed b d
Between-FullyClosed b c d h k = Between-then New h k

pub Closed-FullyClosed : (b c d : Tree) → Closed b c → FullyClosed c d → FullyClosed b d
Closed-FullyClosed b c d h k = Between-then New (Closed-Between b c h) k
