use Rattle.naga_arena.proofs.span.add_span.map_err_inner.Goals as goal

pub returns-in_ok-and_then-in-Err-clause-joined : goal.returns-in_ok-and_then-in-Err-clause-joined
returns-in_ok-and_then-in-Err-clause-joined g c =
    rw c.in-Err.is (record {
      joined = c.in_ok-and_then-in-Err.field-0;
      joins = c.in_ok-and_then-in-Err.ensures.joined;
      inner = c.into_other.ensures.inner;
      spans = c.into_other.ensures.spans;
    })
