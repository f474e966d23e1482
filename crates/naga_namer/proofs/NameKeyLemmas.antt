-- `==` of keys returns `true` if and only if they are the same.
use Rattle.std.proofs.Common.{◌≡◌, ℕ, true, ◌&&◌, refl}
use Rattle.std.specs.Prelude.{◌==◌}
use Rattle.std.specs.Bool.{Decides}
use Rattle.std.specs.Cmp.{unsigned_Decides}
use Rattle.naga_kinds.proofs.DecidesLemmas.{conjunction_decides, decides_along, enum_decides, last_decides, next_decides}
use Rattle.naga_namer.specs.declared.name_key.NameKey.{NameKey}
use Rattle.naga_namer.specs.contracts.name_key.NameKey as name_key
use Rattle.naga_namer.specs.contracts.name_key.NameKeyPartialEq.TheImpl as name_key_eq

-- the test of handles has a second part, for their kinds, which is always true
handle-decides : (x y : ℕ) → Decides ((x == y) && true) (x ≡ y)
handle-decides x y =
    decides_along (λ h. h.0) (λ e. (e, tt)) (conjunction_decides (x == y) true (unsigned_Decides x y) ((λ (e : true ≡ true). let t : Unit {0} = tt in t), λ t. refl))

pub keys-decide : (a b : NameKey) → Decides (name_key_eq.ghosts.eq a b) (a ≡ b)
keys-decide =
    let handle = last_decides handle-decides in
    let position-after-handle = next_decides handle-decides (last_decides unsigned_Decides) in
    let handle-after-handle = next_decides handle-decides (last_decides handle-decides) in
    let position = last_decides unsigned_Decides in
    let two-positions = next_decides unsigned_Decides (last_decides unsigned_Decides) in
    let handle-after-position = next_decides unsigned_Decides (last_decides handle-decides) in
    enum_decides name_key.the_parts name_key.as_values name_key.the_make name_key.the_eta (λ a b. name_key_eq.ghosts.eq a b) (λ a b. refl) refl
    (handle, (handle, (handle, (handle, (position-after-handle, (handle, (position-after-handle, (handle-after-handle, (position, (two-positions, (handle-after-position, tt)))))))))))
