-- Culled blocks: their form, their runs, and culling again.
use Rattle.std.proofs.Common.{◌≡◌, ◌∙◌, sym, ap, subst, refl, Bool, true, false, cond}
use Rattle.std.proofs.lemmas.Bool.{or_parts}
use Rattle.std.specs.Prelude.{◌↔◌}
use Rattle.naga_arena.specs.declared.span.Span.{Span}
use Rattle.naga_ir.specs.Tree.{Tree, empty, push, Node, plain, nested, branch, switch, loop, jump, Jump, Cases, no_cases, case}
use Rattle.naga_runs.specs.Alike.{Alike, replaced, in_push, AlikeStatements, AlikeCases, no_more, one_more}
use Rattle.naga_runs.specs.Alike as alike
use Rattle.naga_runs.specs.Diverges.{diverges}
use Rattle.naga_runs.specs.RunsFit.{RunsFit}
use Rattle.naga_runs.proofs.AlikeLemmas.{Alike-RunsFit}
use Rattle.naga_runs.proofs.DivergesLemmas.{diverges-NeverFallsOff}
use Rattle.naga_runs.proofs.RunsFitLemmas.{NeverFallsOff-one_more}
use Rattle.naga_compact.specs.Culling.{push_reached, culled, culled_node, culled_cases, IsCulled, IsCulledInside, CasesAreCulled, IsPrefix, whole, cut, HasAll, none, IsPrefixInside, ArePrefixes}
use Rattle.naga_compact.specs.Culling as prefix

-- ---- one more statement

pub push_reached-next : (front : Tree) (last : Node) (span : Span) → diverges front ≡ false → push_reached front last span ≡ push front last span
push_reached-next front last span h = ap (λ b. cond b front (push front last span)) h

pub push_reached-never : (front : Tree) (last : Node) (span : Span) → diverges front ≡ true → push_reached front last span ≡ front
push_reached-never front last span h = ap (λ b. cond b front (push front last span)) h

-- a fact of the block with one more statement, where the cases are whether that statement is reached
pub push_reached-cases : (P : Tree → Type 0) (front : Tree) (last : Node) (span : Span) →
    (diverges front ≡ true → P front) → (diverges front ≡ false → P (push front last span)) → P (push_reached front last span)
push_reached-cases P front last span never next = go (diverges front) refl
  where
    go : (b : Bool) → diverges front ≡ b → P (cond b front (push front last span))
    go true h = never h
    go false h = next h

-- ---- form

mutual
  pub culled-IsCulled : (block : Tree) → IsCulled (culled block)
  culled-IsCulled empty = tt
  culled-IsCulled (push front last span) =
      let before : IsCulled (culled front) = culled-IsCulled front in
      let inside : IsCulledInside (culled_node last) = culled_node-IsCulledInside last in
      push_reached-cases IsCulled (culled front) (culled_node last) span (λ h. before) (λ h. (before, h, inside))

  culled_node-IsCulledInside : (node : Node) → IsCulledInside (culled_node node)
  culled_node-IsCulledInside (plain what) = tt
  culled_node-IsCulledInside (nested inner) = culled-IsCulled inner
  culled_node-IsCulledInside (branch condition accept reject) = (culled-IsCulled accept, culled-IsCulled reject)
  culled_node-IsCulledInside (switch selector cases) = culled_cases-AreCulled cases
  culled_node-IsCulledInside (loop body continuing break_if) = (culled-IsCulled body, culled-IsCulled continuing)
  culled_node-IsCulledInside (jump to) = tt

  culled_cases-AreCulled : (cases : Cases) → CasesAreCulled (culled_cases cases)
  culled_cases-AreCulled no_cases = tt
  culled_cases-AreCulled (case value body falls_through others) = (culled-IsCulled body, culled_cases-AreCulled others)

mutual
  pub culled-itself : (block : Tree) → IsCulled block → culled block ≡ block
  culled-itself empty h = refl
  culled-itself (push front last span) h =
      (λ i. push_reached (culled-itself front h.0 i) (culled_node-itself last h.2 i) span) ∙ push_reached-next front last span h.1

  culled_node-itself : (node : Node) → IsCulledInside node → culled_node node ≡ node
  culled_node-itself (plain what) h = refl
  culled_node-itself (nested inner) h = ap nested (culled-itself inner h)
  culled_node-itself (branch condition accept reject) h =
      λ i. branch condition (culled-itself accept h.0 i) (culled-itself reject h.1 i)
  culled_node-itself (switch selector cases) h = ap (switch selector) (culled_cases-itself cases h)
  culled_node-itself (loop body continuing break_if) h =
      λ i. loop (culled-itself body h.0 i) (culled-itself continuing h.1 i) break_if
  culled_node-itself (jump to) h = refl

  culled_cases-itself : (cases : Cases) → CasesAreCulled cases → culled_cases cases ≡ cases
  culled_cases-itself no_cases h = refl
  culled_cases-itself (case value body falls_through others) h =
      λ i. case value (culled-itself body h.0 i) falls_through (culled_cases-itself others h.1 i)

pub culled-culled : (block : Tree) → culled (culled block) ≡ culled block
culled-culled block = culled-itself (culled block) (culled-IsCulled block)

pub IsCulled-is : (block : Tree) → IsCulled block ↔ (culled block ≡ block)
IsCulled-is block = (culled-itself block, λ same. subst IsCulled same (culled-IsCulled block))

pub IsCulled-after_jump : (front : Tree) (to : Jump) (last : Node) (span span' : Span) → IsCulled (push (push front (jump to) span) last span') → ⊥
IsCulled-after_jump front to last span span' h =
    let e : true ≡ false = (or_parts (diverges front) true h.1).1 in cc

-- ---- what is kept

mutual
  culled-HasAll : (block : Tree) → diverges (culled block) ≡ false → HasAll (culled block) block
  culled-HasAll empty = λ h. none
  culled-HasAll (push front last span) =
      let all : diverges (culled front) ≡ false → HasAll (culled front) front = culled-HasAll front in
      let inside : IsPrefixInside (culled_node last) last = culled_node-IsPrefixInside last in
      let P : Tree → Type 0 = λ block. diverges block ≡ false → HasAll block (push front last span) in
      push_reached-cases P (culled front) (culled_node last) span (λ h k. absurd (cc)) (λ h k. prefix.one_more (all h) inside)

  pub culled-IsPrefix : (block : Tree) → IsPrefix (culled block) block
  culled-IsPrefix empty = whole none
  culled-IsPrefix (push front last span) =
      let all : diverges (culled front) ≡ false → HasAll (culled front) front = culled-HasAll front in
      let some : IsPrefix (culled front) front = culled-IsPrefix front in
      let inside : IsPrefixInside (culled_node last) last = culled_node-IsPrefixInside last in
      let P : Tree → Type 0 = λ block. IsPrefix block (push front last span) in
      push_reached-cases P (culled front) (culled_node last) span (λ h. cut some) (λ h. whole (prefix.one_more (all h) inside))

  culled_node-IsPrefixInside : (node : Node) → IsPrefixInside (culled_node node) node
  culled_node-IsPrefixInside (plain what) = prefix.unchanged
  culled_node-IsPrefixInside (nested inner) = prefix.in_nested (culled-IsPrefix inner)
  culled_node-IsPrefixInside (branch condition accept reject) = prefix.in_branch (culled-IsPrefix accept) (culled-IsPrefix reject)
  culled_node-IsPrefixInside (switch selector cases) = prefix.in_switch (culled_cases-ArePrefixes cases)
  culled_node-IsPrefixInside (loop body continuing break_if) = prefix.in_loop (culled-IsPrefix body) (culled-IsPrefix continuing)
  culled_node-IsPrefixInside (jump to) = prefix.unchanged

  culled_cases-ArePrefixes : (cases : Cases) → ArePrefixes (culled_cases cases) cases
  culled_cases-ArePrefixes no_cases = prefix.no_more
  culled_cases-ArePrefixes (case value body falls_through others) = prefix.one_case (culled-IsPrefix body) (culled_cases-ArePrefixes others)

-- ---- runs

-- without a statement that is never reached, the runs fit
cut_fits : (front front' : Tree) (last : Node) (span : Span) → Alike front front' → diverges front' ≡ true → RunsFit (push front last span) front'
cut_fits front front' last span h p =
    let changed : RunsFit (push front last span) (push front' last span) =
    (Alike-RunsFit (push front last span) (push front' last span) (in_push h alike.unchanged)).0
    in
    let behind : RunsFit (push front' last span) front' = (NeverFallsOff-one_more front' last span (diverges-NeverFallsOff front' p)).0 in
    λ turns answers run d. behind turns answers run (changed turns answers run d)

mutual
  culled-Alike : (block : Tree) → Alike block (culled block)
  culled-Alike empty = replaced (λ turns answers run d. d)
  culled-Alike (push front last span) =
      let before : Alike front (culled front) = culled-Alike front in
      let inside : AlikeStatements last (culled_node last) = culled_node-Alike last in
      let P : Tree → Type 0 = λ block. Alike (push front last span) block in
      push_reached-cases P (culled front) (culled_node last) span (λ h. replaced (cut_fits front (culled front) last span before h)) (λ h. in_push before inside)

  culled_node-Alike : (node : Node) → AlikeStatements node (culled_node node)
  culled_node-Alike (plain what) = alike.unchanged
  culled_node-Alike (nested inner) = alike.in_nested (culled-Alike inner)
  culled_node-Alike (branch condition accept reject) = alike.in_branch (culled-Alike accept) (culled-Alike reject)
  culled_node-Alike (switch selector cases) = alike.in_switch (culled_cases-Alike cases)
  culled_node-Alike (loop body continuing break_if) = alike.in_loop (culled-Alike body) (culled-Alike continuing) refl
  culled_node-Alike (jump to) = alike.unchanged

  culled_cases-Alike : (cases : Cases) → AlikeCases cases (culled_cases cases)
  culled_cases-Alike no_cases = no_more
  culled_cases-Alike (case value body falls_through others) = one_more (culled-Alike body) (culled_cases-Alike others)

culled-RunsFit : (block : Tree) → RunsFit block (culled block) × RunsFit (culled block) block
culled-RunsFit block = Alike-RunsFit block (culled block) (culled-Alike block)

-- ---- the same of a block that is the culling of another one

pub culled_runs : (old new : Tree) → new ≡ culled old → RunsFit old new
culled_runs old new is = subst (λ block. RunsFit old block) (sym is) (culled-RunsFit old).0

pub culled_no_other_runs : (old new : Tree) → new ≡ culled old → RunsFit new old
culled_no_other_runs old new is = subst (λ block. RunsFit block old) (sym is) (culled-RunsFit old).1

pub ruleset culled_blocks = (culled_runs, culled_no_other_runs)
