-- The blocks of the code through which a walk leads, with the space for the returns that it leaves out.
use Rattle.std.proofs.Common.{◌≡◌, ◌∙◌, ap, refl, ℕ, suc, ◌<◌, length, Some, None, true, false, inl, inr, Option}
use Rattle.std.specs.Prelude.{is_some, slice_get}
use Rattle.std.specs.declared.alloc.Global.{Global}
use Rattle.std.specs.declared.vec.Vec.{Vec}
use Rattle.naga_arena.specs.Span.{undefined}
use Rattle.naga_ir.proofs.PushedLemmas.{tree-push}
use Rattle.naga_ir.specs.Block.{pairs, room, statements}
use Rattle.naga_ir.specs.Lends.{with_statement}
use Rattle.naga_ir.specs.Tree.{jump, Jump, return}
use Rattle.naga_ir.specs.View.{node_of, tree, tree_of}
use Rattle.naga_ir.specs.declared.block.Block.{Block}
use Rattle.naga_ir.specs.declared.statement.Statement.{Statement}
use Rattle.naga_ir.specs.declared.statement.Statement as variant
use Rattle.naga_ir.specs.declared.statement.SwitchCase.{SwitchCase}
use Rattle.naga_proc.specs.Closing.{follows, leaves_open}
use Rattle.naga_proc.specs.Closing.Room.{HasRoomAtTails}
use Rattle.naga_proc.specs.Closing.Walked.{Adds, Passes, Visits, VisitsCases, WalkedInside, has_no_value}
use Rattle.naga_proc.specs.declared.terminator.one_walk.Walk.{Walk}
use Rattle.naga_proc.specs.declared.terminator.rule.Rule.{Rule}
use Rattle.naga_proc.proofs.Closing.HasRoomAtTailsLemmas.{HasRoomAtTails-at_end, HasRoomAtTails-empty, HasRoomAtTails-from_empty, HasRoomAtTails-from_last, HasRoomAtTails-inside, HasRoomAtTails-returned, HasRoomAtTails-shut}
use Rattle.naga_proc.proofs.Closing.HasRoomInsideLemmas.{HasRoomInside, HasRoomInside-Block, HasRoomInside-Switch, HasRoomInside-accept, HasRoomInside-from_Block, HasRoomInside-from_If, HasRoomInside-from_Switch, HasRoomInside-reject, HasRoomInside-shallow, is_shallow, is_shallow-leaves_open}
use Rattle.naga_proc.proofs.Closing.WalkedLemmas.{Walked-Later, follows-WalkedInside}
use Rattle.naga_proc.proofs.Closing.WalkedTreeOfLemmas.{Walked-adds, Walked-empty, Walked-shut, WalkedInside-Block, WalkedInside-If, WalkedInside-Switch, WalkedInside-jump, WalkedInside-open, WalkedInside-return}

-- ---- a statement

-- the walk leads from the first statement to the second
pub record VisitsInside (rule : Rule) (w : Walk) (s t : Statement) (v : Walk) : Type 0 where
  pub walked : WalkedInside rule w (node_of s) (node_of t) v
  pub room : v.failed ≡ false → HasRoomInside rule t
  pub succeeds : HasRoomInside rule s → w.failed ≡ false → v.failed ≡ false

pub VisitsInside-open : (rule : Rule) (w : Walk) (s : Statement) → leaves_open (node_of s) ≡ true → VisitsInside rule w s s w
VisitsInside-open rule w s leaves = record {
  walked = WalkedInside-open rule w (node_of s) leaves;
  room = λ h. HasRoomInside-shallow rule s (is_shallow-leaves_open (node_of s) leaves);
  succeeds = λ h p. p;
}

pub VisitsInside-jump : (rule : Rule) (w : Walk) (s : Statement) (to : Jump) → node_of s ≡ jump to → has_no_value to ≡ false → VisitsInside rule w s s w
VisitsInside-jump rule w s to is p = record {
  walked = WalkedInside-jump rule w s to is p;
  room = λ h. HasRoomInside-shallow rule s (ap is_shallow is);
  succeeds = λ h q. q;
}

pub VisitsInside-return : (rule : Rule) (w v : Walk) (s : Statement) (to : Jump) → node_of s ≡ jump to → has_no_value to ≡ true → Passes w v → VisitsInside rule w s s v
VisitsInside-return rule w v s to is p passes = record {
  walked = WalkedInside-return rule w v s to is p passes;
  room = λ h. HasRoomInside-shallow rule s (ap is_shallow is);
  succeeds = λ h q. passes.failed ∙ q;
}

pub VisitsInside-Block : (rule : Rule) (w v : Walk) (b c : Block) → Visits rule w b c v → VisitsInside rule w (variant.Block b) (variant.Block c) v
VisitsInside-Block rule w v b c h = record {
  walked = WalkedInside-Block rule w v b c h.walked;
  room = λ p. HasRoomInside-from_Block rule c (h.room p);
  succeeds = λ p. h.succeeds (HasRoomInside-Block rule b p);
}

pub VisitsInside-If : (rule : Rule) (w u v : Walk) (x : ℕ) (b c d e : Block) → Visits rule w b c u → Visits rule u d e v → VisitsInside rule w (variant.If x b d) (variant.If x c e) v
VisitsInside-If rule w u v x b c d e h k =
    let later = Walked-Later k.walked in
    record {
      walked = WalkedInside-If rule w u v x b c d e h.walked k.walked;
      room = λ p. HasRoomInside-from_If rule x c e (h.room (later.failed p)) (k.room p);
      succeeds = λ p q. k.succeeds (HasRoomInside-reject rule x b d p) (h.succeeds (HasRoomInside-accept rule x b d p) q);
    }

pub VisitsInside-Switch : (rule : Rule) (w v : Walk) (x : ℕ) (cs ds : Vec SwitchCase Global) → VisitsCases rule w cs.items ds.items v → VisitsInside rule w (variant.Switch x cs) (variant.Switch x ds) v
VisitsInside-Switch rule w v x cs ds h = record {
  walked = WalkedInside-Switch rule w v x cs ds h.walked;
  room = λ p. HasRoomInside-from_Switch rule x ds (h.room p);
  succeeds = λ p. h.succeeds (HasRoomInside-Switch rule x cs p);
}

-- ---- a block

-- a block whose last statement no return follows
pub Visits-shut : (rule : Rule) (w v : Walk) (b : Block) (i : ℕ) (old new : Statement) → length (pairs b) ≡ suc i → slice_get (statements b) i ≡ Some old → follows rule (node_of old) ≡ false → VisitsInside rule w old new v → Visits rule w b (with_statement b i new) v
Visits-shut rule w v b i old new l found shut h = record {
  walked = Walked-shut rule w v b i old new l found shut h.walked;
  room = λ p. HasRoomAtTails-shut rule b i old new l found (follows-WalkedInside h.walked ∙ shut) (h.room p);
  succeeds = λ p. h.succeeds (HasRoomAtTails-inside rule b i old l found p);
}

adds-room : (rule : Rule) (u v : Walk) (b c : Block) (i : ℕ) (new : Statement) → length (pairs b) ≡ suc i → Adds u (with_statement b i new) c v → (u.failed ≡ false → HasRoomInside rule new) → v.failed ≡ false → HasRoomAtTails rule c
adds-room rule u v b c i new l (inl is) inside h =
    HasRoomAtTails-returned rule c (tree_of (with_statement b i new)) (ap tree is.1 ∙ tree-push (pairs (with_statement b i new)) (variant.Return None) undefined)
adds-room rule u v b c i new l (inr is) inside h =
    HasRoomAtTails-from_last rule b c i new l is.1 (inside (is.0.failed h)) (is.2 h)

-- a block that gets a return after its last statement
pub Visits-adds : (rule : Rule) (w u v : Walk) (b c : Block) (i : ℕ) (old new : Statement) → length (pairs b) ≡ suc i → slice_get (statements b) i ≡ Some old → follows rule (node_of old) ≡ true → VisitsInside rule w old new u → Adds u (with_statement b i new) c v → (0 < room b → u.failed ≡ false → v.failed ≡ false) → Visits rule w b c v
Visits-adds rule w u v b c i old new l found leaves h adds fits = record {
  walked = Walked-adds rule w u v b c i old new l found leaves h.walked adds;
  room = adds-room rule u v b c i new l adds h.room;
  succeeds = λ p q. fits (HasRoomAtTails-at_end rule b i old l found leaves p) (h.succeeds (HasRoomAtTails-inside rule b i old l found p) q);
}

adds-room_empty : (rule : Rule) (u v : Walk) (b c : Block) → length (pairs b) ≡ 0 → Adds u b c v → v.failed ≡ false → HasRoomAtTails rule c
adds-room_empty rule u v b c l (inl is) h =
    HasRoomAtTails-returned rule c (tree_of b) (ap tree is.1 ∙ tree-push (pairs b) (variant.Return None) undefined)
adds-room_empty rule u v b c l (inr is) h = HasRoomAtTails-from_empty rule c (ap length is.1 ∙ l) (is.2 h)

-- an empty block
pub Visits-empty : (rule : Rule) (w v : Walk) (b c : Block) → length (pairs b) ≡ 0 → Adds w b c v → (0 < room b → w.failed ≡ false → v.failed ≡ false) → Visits rule w b c v
Visits-empty rule w v b c l adds fits = record {
  walked = Walked-empty rule w v b c l adds;
  room = adds-room_empty rule w v b c l adds;
  succeeds = λ p q. fits (HasRoomAtTails-empty rule b l p) q;
}

-- a block that ends in a jump at which the walk does nothing
pub Visits-jump : (rule : Rule) (w : Walk) (b : Block) (i : ℕ) (last : Statement) (to : Jump) → length (pairs b) ≡ suc i → slice_get (statements b) i ≡ Some last → node_of last ≡ jump to → has_no_value to ≡ false → Visits rule w b (with_statement b i last) w
Visits-jump rule w b i last to l found is p =
    Visits-shut rule w w b i last last l found (ap (follows rule) is) (VisitsInside-jump rule w last to is p)

-- a block that ends in a return without a value
pub Visits-return : (rule : Rule) (w v : Walk) (b : Block) (i : ℕ) (last : Statement) (to : Jump) → length (pairs b) ≡ suc i → slice_get (statements b) i ≡ Some last → node_of last ≡ jump to → has_no_value to ≡ true → Passes w v → Visits rule w b (with_statement b i last) v
Visits-return rule w v b i last to l found is p passes =
    Visits-shut rule w v b i last last l found (ap (follows rule) is) (VisitsInside-return rule w v last to is p passes)

pub has_no_value-None : (value : Option ℕ) → is_some value ≡ false → has_no_value (return value) ≡ true
has_no_value-None None h = refl
has_no_value-None (Some x) h = absurd (let e : true ≡ false = h in cc)

pub has_no_value-Some : (value : Option ℕ) → is_some value ≡ true → has_no_value (return value) ≡ false
has_no_value-Some None h = absurd (let e : false ≡ true = h in cc)
has_no_value-Some (Some x) h = refl
