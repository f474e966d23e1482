-- Doc comments are read as they are written.
use Rattle.std.proofs.Common.{refl, arith}
use Rattle.naga_json.specs.DocComments.{doc_comments_codec, doc_comments_fields, handle_comments_codec, lines_codec, position_comments_codec}
use Rattle.naga_json.specs.Lawful.{Lawful}
use Rattle.naga_json.proofs.CodecLemmas.{lawful-text}
use Rattle.naga_json.proofs.FieldsLemmas.{LawfulFields, contains, distinct, lawful-field, lawful-no_fields, lawful-struct}
use Rattle.naga_json.proofs.ListsLemmas.{lawful-list}
use Rattle.naga_json.proofs.MapsLemmas.{lawful-empty_map, lawful-map}

lawful-lines : Lawful lines_codec
lawful-lines = lawful-list _ lawful-text

lawful-handle_comments : Lawful handle_comments_codec
lawful-handle_comments = lawful-map _ (omega arith) _ lawful-lines

lawful-position_comments : Lawful position_comments_codec
lawful-position_comments = lawful-map _ (omega arith) _ lawful-lines

lawful-doc_comments_fields : LawfulFields doc_comments_fields
lawful-doc_comments_fields = search (lawful-lines, lawful-handle_comments, lawful-position_comments, lawful-field, lawful-no_fields, lawful-empty_map) depth 20

pub lawful-doc_comments : Lawful doc_comments_codec
unfolding distinct contains
lawful-doc_comments = lawful-struct doc_comments_fields lawful-doc_comments_fields _ _ (λ value. refl) (λ parts. refl) refl
