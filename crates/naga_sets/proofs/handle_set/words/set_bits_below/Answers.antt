use Rattle.std.proofs.Common.{◌≡◌, ◌*◌, ◌/◌, ◌%◌, ◌-◌, ◌^◌, ◌++◌, ◌∷◌, [], ap, ◌∙◌, vec_len}
use Rattle.std.proofs.Math.ListN.{replicate}
use Rattle.naga_sets.proofs.NumbersBelowLemmas.{bit_set-filled, bit_set-filled_words}
use Rattle.naga_sets.proofs.ResizedLemmas.{resized-nil}
use Rattle.naga_sets.proofs.handle_set.words.set_bits_below.Goals as goal

pub returns-then-left-gt0-clause-full : goal.returns-then-left-gt0-clause-full
returns-then-left-gt0-clause-full c =
    let full : c.resize.new.self.items ≡ replicate (c.args.bound / 64) 18446744073709551615 =
    resized-nil c.resize.new.self.items c.clear.new.self.items (c.args.bound / 64) (vec_len c.clear.new.self) 18446744073709551615 c.clear.ensures.items c.clear.ensures.len (rw c.unwrap.ensures at c.resize.ensures.items) in
    bit_set-filled c.push.new.self.items c.args.bound (rw c.unwrap-then-left-gt0.ensures at c.push.ensures.items ∙ ap (λ words. words ++ (1 * 2 ^ (c.args.bound % 64) % 18446744073709551616 - 1) ∷ []) full)

pub returns-else-left-gt0-clause-full : goal.returns-else-left-gt0-clause-full
returns-else-left-gt0-clause-full c =
    let full : c.resize.new.self.items ≡ replicate (c.args.bound / 64) 18446744073709551615 =
    resized-nil c.resize.new.self.items c.clear.new.self.items (c.args.bound / 64) (vec_len c.clear.new.self) 18446744073709551615 c.clear.ensures.items c.clear.ensures.len (rw c.unwrap.ensures at c.resize.ensures.items) in
    bit_set-filled_words c.resize.new.self.items c.args.bound full c.if-left-gt0.false
