-- Walks by the parts of a run make a walk by the whole run. There is one lemma for each way in which a run is made of
-- its parts.
use Rattle.std.proofs.Common.{◌≡◌, ℕ, suc, ◌+◌, true, false, List, [], ◌∷◌, ◌++◌, length, drop, refl, sym, ◌∙◌, ap, subst, append_assoc, arith}
use Rattle.std.proofs.lemmas.List.{append-nil, drop-drop}
use Rattle.naga_runs.specs.Replay.{met}
use Rattle.naga_runs.specs.Replay.Walking.{WentBy, Walked}
use Rattle.naga_runs.specs.Runs.{Run, quiet, answered, joined, slipping, leaving}
use Rattle.naga_runs.specs.declared.run.Ending.TheVariants.{Normal, Cut}
use Rattle.naga_runs.specs.declared.walk.Stop.{Stop}
use Rattle.naga_runs.specs.declared.walk.Walk.{Walk}

-- the walk stopped with a normal ending, and not out of a switch
abbrev pub normally : Stop
normally = record { ending = Normal; slipped = false }

-- two parts, one after the other
WentBy-joined : {old mid new : Walk} {stop stop' : Stop} {first second : Run} →
    WentBy old mid stop first → WentBy mid new stop' second → WentBy old new stop' (joined first second)
WentBy-joined {old = old} {mid = mid} {new = new} {first = first} {second = second} h k = record {
  trace = k.trace ∙ ap (λ t. t ++ second.trace) h.trace ∙ append_assoc (met old.trace.items) first.trace second.trace;
  answers = k.answers ∙ ap (λ l. drop second.used l) h.answers ∙ drop-drop second.used first.used old.answers.now;
  used =
      let x : first.used + length mid.answers.now ≡ length old.answers.now = h.used in
      let y : second.used + length new.answers.now ≡ length mid.answers.now = k.used in
      omega arith;
  ending = k.ending;
  slipped = k.slipped;
}

pub Walked-joined : (First Second Whole : List ℕ → Run → Type 0) {old mid new : Walk} {stop stop' : Stop} →
    Walked First old mid stop → Walked Second mid new stop' →
    ((answers : List ℕ) (first second : Run) → stop.ending ≡ first.ending → stop'.ending ≡ second.ending → First answers first → Second (drop first.used answers) second → Whole answers (joined first second)) →
    Walked Whole old new stop'
Walked-joined First Second Whole {old = old} d e rule = record {
  run = joined d.run e.run;
  fits = rule old.answers.now d.run e.run d.went.ending e.went.ending d.fits (subst (λ l. Second l e.run) d.went.answers e.fits);
  went = WentBy-joined d.went e.went;
}

-- a part whose runs are runs of the whole
pub Walked-by_part : (Part Whole : List ℕ → Run → Type 0) {old new : Walk} {stop : Stop} → Walked Part old new stop →
    ((answers : List ℕ) (run : Run) → stop.ending ≡ run.ending → Part answers run → Whole answers run) → Walked Whole old new stop
Walked-by_part Part Whole {old = old} d rule =
    record { run = d.run; fits = rule old.answers.now d.run d.went.ending d.fits; went = d.went }

-- the part was left by a break out of a switch, so the whole ends normally and is slipped
pub Walked-slipping : (Part Whole : List ℕ → Run → Type 0) {old new : Walk} {stop : Stop} → Walked Part old new stop →
    ((answers : List ℕ) (run : Run) → stop.ending ≡ run.ending → Part answers run → Whole answers (slipping run)) →
    Walked Whole old new (record { ending = Normal; slipped = true })
Walked-slipping Part Whole {old = old} d rule = record {
  run = slipping d.run;
  fits = rule old.answers.now d.run d.went.ending d.fits;
  went = record { trace = d.went.trace; answers = d.went.answers; used = d.went.used; ending = refl; slipped = refl };
}

-- the part was a turn that left the loop, so the whole ends normally
pub Walked-leaving : (Part Whole : List ℕ → Run → Type 0) {old new : Walk} {stop : Stop} → Walked Part old new stop →
    ((answers : List ℕ) (run : Run) → stop.ending ≡ run.ending → Part answers run → Whole answers (leaving run)) →
    Walked Whole old new normally
Walked-leaving Part Whole {old = old} d rule = record {
  run = leaving d.run;
  fits = rule old.answers.now d.run d.went.ending d.fits;
  went = record { trace = d.went.trace; answers = d.went.answers; used = d.went.used; ending = refl; slipped = refl };
}

-- an answer was read before the part
pub Walked-answered : (Part Whole : List ℕ → Run → Type 0) {old mid new : Walk} {stop : Stop} {answer : ℕ} →
    mid.trace ≡ old.trace → old.answers.now ≡ answer ∷ mid.answers.now → Walked Part mid new stop →
    ((answers : List ℕ) (run : Run) → Part answers run → Whole (answer ∷ answers) (answered run)) → Walked Whole old new stop
Walked-answered Part Whole {old = old} {mid = mid} {new = new} {answer = answer} e p d rule =
    let used : d.run.used + length new.answers.now ≡ length mid.answers.now = d.went.used in
    let same_length : length old.answers.now ≡ length (answer ∷ mid.answers.now) = ap length p in
    record {
      run = answered d.run;
      fits = subst (λ l. Whole l (answered d.run)) (sym p) (rule mid.answers.now d.run d.fits);
      went = record {
        trace = d.went.trace ∙ ap (λ t. met t.items ++ d.run.trace) e;
        answers = d.went.answers ∙ ap (λ l. drop (suc d.run.used) l) (sym p);
        used = omega arith;
        ending = d.went.ending;
        slipped = d.went.slipped;
      };
    }

-- nothing was met or read
pub Walked-quiet : (Whole : List ℕ → Run → Type 0) (old new : Walk) (run : Run) → run.trace ≡ [] → run.used ≡ 0 →
    new.trace ≡ old.trace → new.answers.now ≡ old.answers.now → Whole old.answers.now run →
    Walked Whole old new (record { ending = run.ending; slipped = run.slipped })
Walked-quiet Whole old new run t u e p d = record {
  run = run;
  fits = d;
  went = record {
    trace = ap (λ v. met v.items) e ∙ sym (append-nil (met old.trace.items)) ∙ ap (λ l. met old.trace.items ++ l) (sym t);
    answers = p ∙ ap (λ k. drop k old.answers.now) (sym u);
    used = let same_length = ap length p in omega arith;
    ending = refl;
    slipped = refl;
  };
}

-- no answer was left
pub Walked-cut : (Whole : List ℕ → Run → Type 0) (old new : Walk) → new.trace ≡ old.trace → old.answers.now ≡ [] → new.answers.now ≡ [] → Whole [] (quiet Cut) →
    Walked Whole old new (record { ending = Cut; slipped = false })
Walked-cut Whole old new e p q d =
    Walked-quiet Whole old new (quiet Cut) refl refl e (q ∙ sym p) (subst (λ l. Whole l (quiet Cut)) (sym p) d)

-- no answer was left, and the code stopped for that reason
pub Walked-cut_stop : (Whole : List ℕ → Run → Type 0) (old new : Walk) (stop : Stop) → stop ≡ record { ending = Cut; slipped = false } →
    new.trace ≡ old.trace → old.answers.now ≡ [] → new.answers.now ≡ [] → Whole [] (quiet Cut) → Walked Whole old new stop
Walked-cut_stop Whole old new stop s e p q d =
    subst (λ z. Walked Whole old new z) (sym s) (Walked-cut Whole old new e p q d)
