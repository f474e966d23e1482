use Rattle.std.proofs.Common.{◌≡◌, Some, rules, subst}
use Rattle.std.proofs.lemmas.Result.{MatchResult-weaker}
use Rattle.naga_valid.specs.Faults.{ChecksComments}
use Rattle.naga_valid.specs.Places.{lengths}
use Rattle.naga_valid.specs.declared.place.Place.TheVariants as place
use Rattle.naga_valid.proofs.FaultLemmas.{IsOutside-comments, comments_inside, comments_within}
use Rattle.naga_valid.proofs.handles.declarations.check_doc_comments.Goals as goal

pub returns-in-Some : goal.returns-in-Some
returns-in-Some c =
    let whole = c.args.module.now in
    let boxed = c.in-Some.comments in
    let is : c.args.module.now.doc_comments ≡ Some c.in-Some.comments = search rules in
    let same : c.deref.result.now ≡ c.in-Some.comments.value = first_of (search rules, cc) in
    let checks : ChecksComments (lengths c.args.module.now) c.in-Some.comments.value c.check_comments.result =
    subst (λ limits. ChecksComments limits c.in-Some.comments.value c.check_comments.result) c.requires
    (subst (λ all. ChecksComments c.args.limits.now all c.check_comments.result) same c.check_comments.ensures)
    in
    MatchResult-weaker c.check_comments.result checks
    (λ _ all. (
      comments_within whole.doc_comments boxed is (λ b. b.value) place.TypeComments (lengths whole) (all place.TypeComments),
      comments_within whole.doc_comments boxed is (λ b. b.value) place.MemberComments (lengths whole) (all place.MemberComments),
      comments_within whole.doc_comments boxed is (λ b. b.value) place.FunctionComments (lengths whole) (all place.FunctionComments),
      comments_within whole.doc_comments boxed is (λ b. b.value) place.ConstantComments (lengths whole) (all place.ConstantComments),
      comments_within whole.doc_comments boxed is (λ b. b.value) place.GlobalVariableComments (lengths whole) (all place.GlobalVariableComments),
    ))
    (λ fault found. IsOutside-comments whole fault.place fault.reference (comments_inside whole.doc_comments boxed is (λ b. b.value) fault.place fault.reference found.1) found.2)
