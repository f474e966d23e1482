-- Culling and closing modules, once, twice and in either order.
use Rattle.std.proofs.Common.{◌≡◌, ◌∙◌, sym, ap, subst, [], ◌∷◌}
use Rattle.naga_ir.specs.Tree.{Tree}
use Rattle.naga_ir.specs.declared.module.Module as the_module
use Rattle.naga_compact.specs.Culling.{culled}
use Rattle.naga_compact.proofs.CulledLemmas.{culled-culled}
use Rattle.naga_proc.specs.Closing.{ClosedBy, closed}
use Rattle.naga_proc.specs.declared.terminator.rule.Rule.{Rule}
use Rattle.naga_proc.proofs.Closing.ClosedByLemmas.{ClosedBy-again, ClosedBy-is}
use Rattle.naga_meaning.proofs.CulledLemmas.{culled-closed}
use Rattle.naga_proc.specs.Bodies.{ChangesBodies, ClosesBodies, HasSameStatements, IsSame}
use Rattle.naga_proc.proofs.Bodies.ChangesBodiesLemmas.{ChangesBodies-joined, ChangesBodies-parted}
use Rattle.naga_passes.specs.After.{After}
use Rattle.naga_passes.specs.Culling.{Culled, CullsBodies}
use Rattle.naga_passes.specs.declared.pass.Pass.TheVariants.{Cull, Close}

-- ---- the same change twice

Culled-twice : (b c d : Tree) → Culled b c → Culled c d → Culled b d
Culled-twice b c d once again = again ∙ (ap culled once ∙ culled-culled b)

Culled-one : (b c d : Tree) → Culled b c → Culled b d → d ≡ c
Culled-one b c d one other = other ∙ sym one

pub CullsBodies-again : (old middle new : the_module.Module) → CullsBodies old middle → CullsBodies middle new → HasSameStatements middle new
CullsBodies-again old middle new once again =
    ChangesBodies-parted Culled Culled IsSame Culled-one old middle new once (ChangesBodies-joined Culled Culled Culled Culled-twice old middle new once again)

module _ (rule : Rule) where
  ClosedBy-same : (b c d : Tree) → ClosedBy rule b c → ClosedBy rule b d → d ≡ c
  ClosedBy-same b c d one other = (ClosedBy-is rule b d).0 other ∙ sym ((ClosedBy-is rule b c).0 one)

  ClosedBy-twice : (b c d : Tree) → ClosedBy rule b c → ClosedBy rule c d → ClosedBy rule b d
  ClosedBy-twice b c d once again =
      subst (ClosedBy rule b) (sym (ClosedBy-same c c d (ClosedBy-again rule b c once) again)) once

  pub ClosesBodies-again : (old middle new : the_module.Module) → ClosesBodies rule old middle → ClosesBodies rule middle new → HasSameStatements middle new
  ClosesBodies-again old middle new once again =
      ChangesBodies-parted (ClosedBy rule) (ClosedBy rule) IsSame ClosedBy-same old middle new once
      (ChangesBodies-joined (ClosedBy rule) (ClosedBy rule) (ClosedBy rule) ClosedBy-twice old middle new once again)

  -- ---- culling and closing

  -- the second block is the first, culled and closed
  abbrev CulledAndClosed : Tree → Tree → Type 0
  CulledAndClosed b c = c ≡ closed rule (culled b)

  culled_first : (b c d : Tree) → Culled b c → ClosedBy rule c d → CulledAndClosed b d
  culled_first b c d culls closes = (ClosedBy-is rule c d).0 closes ∙ ap (closed rule) culls

  closed_first : (b c d : Tree) → ClosedBy rule b c → Culled c d → CulledAndClosed b d
  closed_first b c d closes culls = culls ∙ (ap culled ((ClosedBy-is rule b c).0 closes) ∙ culled-closed rule b)

  CulledAndClosed-one : (b c d : Tree) → CulledAndClosed b c → CulledAndClosed b d → d ≡ c
  CulledAndClosed-one b c d one other = other ∙ sym one

  pub After-commutes : (old new other : the_module.Module) → After (Cull ∷ Close rule ∷ []) old new → After (Close rule ∷ Cull ∷ []) old other → HasSameStatements new other
  After-commutes old new other one two =
      let first : ChangesBodies CulledAndClosed old one.2.0 = ChangesBodies-joined Culled (ClosedBy rule) CulledAndClosed culled_first old one.0 one.2.0 one.1 one.2.1 in
      let second : ChangesBodies CulledAndClosed old two.2.0 = ChangesBodies-joined (ClosedBy rule) Culled CulledAndClosed closed_first old two.0 two.2.0 two.1 two.2.1 in
      let same : HasSameStatements one.2.0 two.2.0 = ChangesBodies-parted CulledAndClosed CulledAndClosed IsSame CulledAndClosed-one old one.2.0 two.2.0 first second in
      subst (λ (whole : the_module.Module). HasSameStatements whole other) (sym one.2.2) (subst (HasSameStatements one.2.0) (sym two.2.2) same)
