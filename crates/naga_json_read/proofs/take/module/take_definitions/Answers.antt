use Rattle.naga_json_read.proofs.take.module.take_definitions.Goals as goal

pub returns : goal.returns
returns c = record {
  after_functions = _;
  after_entry_points = _;
  after_filters = _;
  after_leaf = _;
  after_comments = _;
  functions = c.in_ok-functions.ensures;
  entry_points = c.in_ok-entry_points.ensures;
  diagnostic_filters = c.in_ok-diagnostic_filters.ensures;
  diagnostic_filter_leaf = c.in_ok-diagnostic_filter_leaf.ensures;
  doc_comments = c.in_ok-doc_comments.ensures;
  ended = c.in_ok-take_end.ensures;
}
