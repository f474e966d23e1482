use Rattle.std.proofs.Common.{ℕ, ◌≤◌, length}
use Rattle.std.proofs.lemmas.List.Elements.{All-filter}
use Rattle.std.proofs.lemmas.List.Kept.{AllPairs-filter}
use Rattle.naga_proc.specs.Building.Emission.{is_filled}
use Rattle.naga_proc.specs.Building.{appended, lengths}
use Rattle.naga_proc.proofs.Building.IsAscendingLemmas.{IsAscending-higher, AllPairs-ascending, All-within, All-filled}
use Rattle.naga_proc.proofs.Building.IsBuiltLemmas.{HasRanges-from_stands}
use Rattle.naga_proc.proofs.Building.SomeBuiltLemmas.{SomeBuilt-all}
use Rattle.naga_proc.proofs.laws.building.emitted_ranges_are_in_order.Goals as goal

pub returns : goal.returns
returns c = record {
  ascending = λ commands in_turn.
      let built = SomeBuilt-all commands in_turn in
      let known = HasRanges-from_stands commands built.emitter built.built.stands in
      AllPairs-filter (λ (earlier later : ℕ × ℕ). earlier.1 ≤ later.0) is_filled (lengths commands) (AllPairs-ascending 0 (lengths commands) known.high known.ascending);
  filled = λ commands in_turn.
      let built = SomeBuilt-all commands in_turn in
      let known = HasRanges-from_stands commands built.emitter built.built.stands in
      All-filled 0 (lengths commands) known.high known.ascending;
  within = λ commands in_turn.
      let built = SomeBuilt-all commands in_turn in
      let known = HasRanges-from_stands commands built.emitter built.built.stands in
      All-filter is_filled (λ (range : ℕ × ℕ). range.1 ≤ length (appended commands)) (lengths commands) (All-within 0 (lengths commands) _ (IsAscending-higher 0 (lengths commands) known.high (length (appended commands)) known.ascending known.within));
}
