use Rattle.roundtrip_tree.proofs.Sources.{source_reads}
use Rattle.roundtrip_tree.proofs.printed_tokens_are_a_tree.Goals as goal

pub returns : goal.returns
returns k text ks ts ds gs tokens keys_fit types_fit indicators_fit names_fit begins =
    let r = source_reads text ks ts ds gs keys_fit types_fit indicators_fit names_fit tokens begins in (r.tree, r.spelled, r.shows)
