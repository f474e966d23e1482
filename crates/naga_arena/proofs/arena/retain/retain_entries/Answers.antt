use Rattle.std.proofs.Common.{◌≡◌, ◌<◌, [], ◌∷◌, drop, length, length-append, rules, of_calls, ap, sym, subst, arith}
use Rattle.std.proofs.Math.ListN.{length-set}
use Rattle.std.proofs.lemmas.List.{nil_from_length}
use Rattle.std.specs.List.{enumerate_from, zip}
use Rattle.std.specs.Vec.Iter.{into_iter_items}
use Rattle.naga_arena.specs.Arena.{Retains}
use Rattle.naga_arena.proofs.RetainsLemmas.{Completes-done, Completes-dropped, Completes-kept}
use Rattle.naga_arena.proofs.ZipLemmas.{zip-take}
use Rattle.naga_arena.proofs.arena.retain.retain_entries.Goals as goal

pub each-preserved-in-Some-predicate : goal.each-preserved-in-Some-predicate
each-preserved-in-Some-predicate g c =
    let before = c.each.invariant.1 in
    let taken : into_iter_items c.each.rest ≡ c.in-Some.value ∷ into_iter_items c.next.new.self = c.in-Some.ensures.items in
    let shorter = ap length taken in
    let within : c.each.index < length c.each.spans.items = omega (arith, shorter, before.aligned) in
    let len : c.len.result ≡ length c.each.kept.items = search rules in
    let as_many = length-set c.each.spans.items c.len.result c.index-span.result.now in (
      search of_calls,
      record {
        counted = omega (arith, shorter, c.in-Some.ensures.cases.1, before.counted);
        aligned = omega (arith, shorter, as_many, before.aligned);
        fits = omega (arith, as_many, before.fits);
        behind = rw c.push_reserved.ensures.items (simp length-append (omega (arith, before.behind)));
        room = omega (arith, shorter, c.push_reserved.ensures, before.room);
        completes =
            rw (c.push_reserved.ensures.items, len)
            (Completes-kept (goal.P-step g) _ _ _ _ _ _ _ _ _ _ c.index-span.result.now _ _ taken c.index-span.ensures within before.behind c.in-Some-predicate.is (rw c.at-handle.ensures at c.predicate.ensures) before.completes);
      },
    )

pub each-preserved : goal.each-preserved
each-preserved g c =
    let before = c.each.invariant.1 in
    let taken : into_iter_items c.each.rest ≡ c.in-Some.value ∷ into_iter_items c.next.new.self = c.in-Some.ensures.items in
    let shorter = ap length taken in
    let within : c.each.index < length c.each.spans.items = omega (arith, shorter, before.aligned) in (
      search of_calls,
      record {
        counted = omega (arith, shorter, c.in-Some.ensures.cases.1, before.counted);
        aligned = omega (arith, shorter, before.aligned);
        fits = before.fits;
        behind = omega (arith, before.behind);
        room = omega (arith, shorter, before.room);
        completes = Completes-dropped (goal.P-step g) _ _ _ _ _ _ _ _ _ _ _ taken within c.in_default-predicate.is (rw c.at-handle.ensures at c.predicate.ensures) before.completes;
      },
    )

pub returns : goal.returns
returns g c =
    let none : into_iter_items c.each.rest ≡ [] = nil_from_length _ (omega (arith, c.in_default.ensures.cases.0, c.each.invariant.1.counted)) in
    let len : c.len-2.result ≡ length c.each.kept.items = search rules in
    let kept : zip c.each.kept.items c.truncate.new.self.items ≡ zip c.each.kept.items c.each.spans.items = rw (c.truncate.ensures.items, len) (zip-take c.each.kept.items c.each.spans.items) in
    let left = drop c.each.index c.each.spans.items in
    let nothing : enumerate_from c.each.index (zip (into_iter_items c.each.rest) left) ≡ [] = ap (λ values. enumerate_from c.each.index (zip values left)) none in
    let all = enumerate_from 0 (zip c.args.values.items c.args.spans.items) in
    let done = Completes-done (goal.P-step g) c.args.predicate all c.each.predicate (enumerate_from c.each.index (zip (into_iter_items c.each.rest) left)) (zip c.each.kept.items c.each.spans.items) nothing c.each.invariant.1.completes in
    subst (Retains (goal.P-step g) c.args.predicate all) (sym kept) done
