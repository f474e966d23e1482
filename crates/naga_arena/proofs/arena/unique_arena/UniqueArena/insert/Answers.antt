use Rattle.std.proofs.Common.{◌≡◌, ◌++◌, ◌∷◌, [], true, false, ◌∙◌}
use Rattle.std.specs.List.{list_any, zip}
use Rattle.naga_arena.proofs.HandleOfLemmas.{absent-if_added, handle_of-absent, handle_of-present, position_or_len-length, present-unless_added, zip-inserted_absent, zip-inserted_present}
use Rattle.naga_arena.proofs.arena.unique_arena.UniqueArena.insert.Goals as goal
use Rattle.naga_arena.proofs.arena.unique_arena.UniqueArena.insert.Goals.{else-added-via-then-added+else-is_err, else-added-via-else-added}

pub returns-clause-handle : goal.returns-clause-handle
returns-clause-handle g c =
    elim c.else-added.branch [
      | else-added-via-then-added+else-is_err w ↦
          let absent : list_any (g.T.PartialEq.eq c.args.value) c.self.inside.set.keys ≡ false = absent-if_added _ _ c.in-Ok.ensures.added w.if-added.true in
          rw (handle_of-absent g.T.PartialEq.eq _ _ _ c.args.value c.self.view_is c.self.invariant.0 absent)
          (c.at.ensures ∙ c.in-Ok.ensures.index ∙ position_or_len-length g.T.PartialEq.eq _ _ _ c.args.value c.self.view_is c.self.invariant.0 absent)
      | else-added-via-else-added w ↦
          let present : list_any (g.T.PartialEq.eq c.args.value) c.self.inside.set.keys ≡ true = present-unless_added _ _ c.in-Ok.ensures.added w.if-added.false in
          rw (handle_of-present g.T.PartialEq.eq _ _ _ c.args.value c.self.view_is c.self.invariant.0 present) (c.at.ensures ∙ c.in-Ok.ensures.index)
    ]

pub returns-clause-kept : goal.returns-clause-kept
returns-clause-kept g c =
    elim c.else-added.branch [
      | else-added-via-then-added+else-is_err w ↦
          let absent : list_any (g.T.PartialEq.eq c.args.value) c.self.inside.set.keys ≡ false = absent-if_added _ _ c.in-Ok.ensures.added w.if-added.true in
          rw (handle_of-absent g.T.PartialEq.eq _ _ _ c.args.value c.self.view_is c.self.invariant.0 absent) tt
      | else-added-via-else-added w ↦
          let present : list_any (g.T.PartialEq.eq c.args.value) c.self.inside.set.keys ≡ true = present-unless_added _ _ c.in-Ok.ensures.added w.if-added.false in
          let same : zip c.insert_full.new.self.keys c.self.inside.span_info.items ≡ c.args.self.now = zip-inserted_present g.T.PartialEq.eq _ _ _ c.args.value c.self.view_is c.self.invariant.0 _ present c.in-Ok.ensures.keys in
          rw (handle_of-present g.T.PartialEq.eq _ _ _ c.args.value c.self.view_is c.self.invariant.0 present) (cc)
    ]

pub returns-clause-appended : goal.returns-clause-appended
returns-clause-appended g c =
    elim c.else-added.branch [
      | else-added-via-then-added+else-is_err w ↦
          let absent : list_any (g.T.PartialEq.eq c.args.value) c.self.inside.set.keys ≡ false = absent-if_added _ _ c.in-Ok.ensures.added w.if-added.true in
          let pushed : zip c.insert_full.new.self.keys w.push.new.self.items ≡ c.args.self.now ++ (c.args.value, c.args.span) ∷ [] = zip-inserted_absent g.T.PartialEq.eq _ _ _ c.args.value c.self.view_is c.self.invariant.0 _ _ _ absent c.in-Ok.ensures.keys (rw w.if-is_err.ensures.negation at w.push.ensures.items) in
          rw (handle_of-absent g.T.PartialEq.eq _ _ _ c.args.value c.self.view_is c.self.invariant.0 absent) (cc)
      | else-added-via-else-added w ↦
          let present : list_any (g.T.PartialEq.eq c.args.value) c.self.inside.set.keys ≡ true = present-unless_added _ _ c.in-Ok.ensures.added w.if-added.false in
          rw (handle_of-present g.T.PartialEq.eq _ _ _ c.args.value c.self.view_is c.self.invariant.0 present) tt
    ]
