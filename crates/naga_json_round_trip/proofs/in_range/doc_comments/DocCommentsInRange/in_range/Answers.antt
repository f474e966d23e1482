use Rattle.std.proofs.Common.{rules, ℕ, ◌^◌, List, refl}
use Rattle.naga_arena.specs.Limits.{max_len}
use Rattle.naga_json.specs.DocComments.{lines_codec, lines_of}
use Rattle.naga_json_round_trip.proofs.FitsLemmas.{map-fits}
use Rattle.naga_json_round_trip.proofs.in_range.doc_comments.DocCommentsInRange.in_range.Goals as goal

any : (lines : List (List ℕ)) → lines_codec.Fits lines
any lines = λ k d within. tt

pub returns : goal.returns
returns c =
    let comments = c.args.self.now in
    let positions = 2 ^ 64 in (
      map-fits max_len lines_codec lines_of any comments.types c.keys_in_range.ensures.each (search rules),
      (
        refl,
        (
          map-fits positions lines_codec lines_of any comments.entry_points c.keys_in_range-2.ensures.each (search rules),
          (
            map-fits max_len lines_codec lines_of any comments.functions c.keys_in_range-3.ensures.each (search rules),
            (
              map-fits max_len lines_codec lines_of any comments.constants c.keys_in_range-4.ensures.each (search rules),
              (map-fits max_len lines_codec lines_of any comments.global_variables c.keys_in_range-5.ensures.each (search rules), (any (lines_of comments.«module»), tt)),
            ),
          ),
        ),
      ),
    )
