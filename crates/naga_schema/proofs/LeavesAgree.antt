-- Values that contain no other value. Their schemas accept the JSONs that their codecs read.
use Rattle.bitflags.specs.Text.{flag_piece, read_text}
use Rattle.json.specs.Find.{as_str, is_null}
use Rattle.json.specs.Json.{Json}
use Rattle.naga_arena.specs.Limits.{max_len}
use Rattle.naga_json.specs.Codec.{boolean_codec, byte_codec, handle_codec, integer_codec, long_codec, nonzero_codec, option_codec, short_codec, text_codec, word_codec}
use Rattle.naga_json.specs.FlagSets.{barrier_codec, barriers, memory_decorations, memory_decorations_codec, storage_access_codec, storage_accesses}
use Rattle.naga_json.specs.Form.{float_form}
use Rattle.naga_json.specs.Numbers.{natural_in, ◌>>=◌}
use Rattle.naga_json.specs.Objects.{optional_in}
use Rattle.naga_kinds.specs.declared.flags.Barrier.{Barrier}
use Rattle.naga_kinds.specs.declared.flags.MemoryDecorations.{MemoryDecorations}
use Rattle.naga_kinds.specs.declared.flags.StorageAccess.{StorageAccess}
use Rattle.naga_schema.proofs.AgreesLemmas.{Agrees, agrees-leaf}
use Rattle.naga_schema.proofs.TestsLemmas.{some-map}
use Rattle.naga_schema.specs.Leaf.{accepts_leaf, is_flags, reads_flags, text_is}
use Rattle.std.proofs.Common.{Bool, List, None, Option, Some, cond, false, is_some, option_map, refl, sym, true, ℕ, ◌+◌, ◌||◌, ◌∙◌, ◌≡◌}
use Rattle.std.specs.Float.{binary32, binary64}
use Rattle.std.specs.Result.{result_ok}
use Rattle.naga_schema.specs.declared.derived.type_name.TypeName.TheVariants as type
use Rattle.naga_schema.specs.declared.leaf.FlagSet.TheVariants as flag_set
use Rattle.naga_schema.specs.declared.leaf.Leaf.TheVariants as leaves

pub agrees-handle : (depth : ℕ) → Agrees depth (type.Leaf (leaves.Natural 0xffff_fffe)) handle_codec.decode
unfolding accepts_leaf
agrees-handle depth = agrees-leaf depth (leaves.Natural 0xffff_fffe) handle_codec.decode (λ j. refl)

pub agrees-byte : (depth : ℕ) → Agrees depth (type.Leaf (leaves.Natural 0xff)) byte_codec.decode
unfolding accepts_leaf
agrees-byte depth = agrees-leaf depth (leaves.Natural 0xff) byte_codec.decode (λ j. refl)

pub agrees-short : (depth : ℕ) → Agrees depth (type.Leaf (leaves.Natural 0xffff)) short_codec.decode
unfolding accepts_leaf
agrees-short depth = agrees-leaf depth (leaves.Natural 0xffff) short_codec.decode (λ j. refl)

pub agrees-word : (depth : ℕ) → Agrees depth (type.Leaf (leaves.Natural 0xffff_ffff)) word_codec.decode
unfolding accepts_leaf
agrees-word depth = agrees-leaf depth (leaves.Natural 0xffff_ffff) word_codec.decode (λ j. refl)

pub agrees-long : (depth : ℕ) → Agrees depth (type.Leaf (leaves.Natural 0xffff_ffff_ffff_ffff)) long_codec.decode
unfolding accepts_leaf
agrees-long depth = agrees-leaf depth (leaves.Natural 0xffff_ffff_ffff_ffff) long_codec.decode (λ j. refl)

pub agrees-non_zero : (depth : ℕ) → Agrees depth (type.Leaf leaves.NonZero) nonzero_codec.decode
unfolding accepts_leaf
agrees-non_zero depth = agrees-leaf depth leaves.NonZero nonzero_codec.decode (λ j. refl)

pub agrees-boolean : (depth : ℕ) → Agrees depth (type.Leaf leaves.Boolean) boolean_codec.decode
unfolding accepts_leaf
agrees-boolean depth = agrees-leaf depth leaves.Boolean boolean_codec.decode (λ j. refl)

pub agrees-text : (depth : ℕ) → Agrees depth (type.Leaf leaves.Text) text_codec.decode
unfolding accepts_leaf
agrees-text depth = agrees-leaf depth leaves.Text text_codec.decode (λ j. refl)

pub agrees-integer_16 : (depth : ℕ) → Agrees depth (type.Leaf leaves.Integer16) (integer_codec 15).decode
unfolding accepts_leaf
agrees-integer_16 depth = agrees-leaf depth leaves.Integer16 (integer_codec 15).decode (λ j. refl)

pub agrees-integer_32 : (depth : ℕ) → Agrees depth (type.Leaf leaves.Integer32) (integer_codec 31).decode
unfolding accepts_leaf
agrees-integer_32 depth = agrees-leaf depth leaves.Integer32 (integer_codec 31).decode (λ j. refl)

pub agrees-integer_64 : (depth : ℕ) → Agrees depth (type.Leaf leaves.Integer64) (integer_codec 63).decode
unfolding accepts_leaf
agrees-integer_64 depth = agrees-leaf depth leaves.Integer64 (integer_codec 63).decode (λ j. refl)

pub agrees-float_32 : (depth : ℕ) → Agrees depth (type.Leaf leaves.Float32) (float_form binary32).decode
unfolding accepts_leaf
agrees-float_32 depth = agrees-leaf depth leaves.Float32 (float_form binary32).decode (λ j. refl)

pub agrees-float_64 : (depth : ℕ) → Agrees depth (type.Leaf leaves.Float64) (float_form binary64).decode
unfolding accepts_leaf
agrees-float_64 depth = agrees-leaf depth leaves.Float64 (float_form binary64).decode (λ j. refl)

pub agrees-optional_handle : (depth : ℕ) → Agrees depth (type.Leaf (leaves.OptionalNatural 0xffff_fffe)) (option_codec handle_codec).decode
unfolding accepts_leaf
agrees-optional_handle depth = agrees-leaf depth (leaves.OptionalNatural 0xffff_fffe) (option_codec handle_codec).decode (λ j. by_null (is_null j) j)
  where
    by_null : (empty : Bool) (j : Json) → (empty || is_some (natural_in (0xffff_fffe + 1) j)) ≡ is_some (optional_in (natural_in max_len) (cond empty None (Some j)))
    by_null true j = refl
    by_null false j = sym (some-map Some (natural_in max_len j))

flags-same : {A : Type 0} (make : ℕ → A) (table : List (List ℕ × ℕ)) (bits : ℕ) (test : List ℕ → Bool) → ((text : List ℕ) → test text ≡ reads_flags table bits text) → (o : Option (List ℕ))
    → text_is test o ≡ is_some (option_map make (o >>= λ text. result_ok (read_text (flag_piece table bits) text)))
flags-same make table bits test same None = refl
flags-same make table bits test same (Some text) = same text ∙ sym (some-map make (result_ok (read_text (flag_piece table bits) text)))

pub agrees-storage_access : (depth : ℕ) → Agrees depth (type.Leaf (leaves.Flags flag_set.StorageAccess)) storage_access_codec.decode
unfolding accepts_leaf is_flags
agrees-storage_access depth =
    let make : ℕ → StorageAccess = λ bits. record { 0 = bits } in
    agrees-leaf depth (leaves.Flags flag_set.StorageAccess) storage_access_codec.decode (λ j. flags-same make storage_accesses 32 (is_flags flag_set.StorageAccess) (λ text. refl) (as_str j))

pub agrees-memory_decorations : (depth : ℕ) → Agrees depth (type.Leaf (leaves.Flags flag_set.MemoryDecorations)) memory_decorations_codec.decode
unfolding accepts_leaf is_flags
agrees-memory_decorations depth =
    let make : ℕ → MemoryDecorations = λ bits. record { 0 = bits } in
    agrees-leaf depth (leaves.Flags flag_set.MemoryDecorations) memory_decorations_codec.decode (λ j. flags-same make memory_decorations 8 (is_flags flag_set.MemoryDecorations) (λ text. refl) (as_str j))

pub agrees-barrier : (depth : ℕ) → Agrees depth (type.Leaf (leaves.Flags flag_set.Barrier)) barrier_codec.decode
unfolding accepts_leaf is_flags
agrees-barrier depth =
    let make : ℕ → Barrier = λ bits. record { 0 = bits } in
    agrees-leaf depth (leaves.Flags flag_set.Barrier) barrier_codec.decode (λ j. flags-same make barriers 32 (is_flags flag_set.Barrier) (λ text. refl) (as_str j))
