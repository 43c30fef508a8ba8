use Rattle.std.proofs.Common.{arith, ap}
use Rattle.kx_tables.specs.Fit.{CountsFit}
use Rattle.kx_tables.proofs.Whole.{whole_is_sound, entries_begin, entries_lie}
use Rattle.kx_tables.proofs.check.check_rules.Goals as goal

pub check_entries-requires-clause-within : goal.check_entries-requires-clause-within
check_entries-requires-clause-within g c = entries_lie (g.R.Rows.content c.args.rows.now) _ c.in_ok-type_names.ensures.ok

pub check_entries-requires-clause-begin : goal.check_entries-requires-clause-begin
check_entries-requires-clause-begin g c = entries_begin (g.R.Rows.content c.args.rows.now) _ c.in_ok-type_names.ensures.ok

pub returns-clause-ok : goal.returns-clause-ok
returns-clause-ok g c =
    let fit : CountsFit (g.R.Rows.content c.args.rows.now) = record {
      types = omega (arith, ap (λ k. k.types) c.counts-counts.ensures);
      entries = omega (arith, ap (λ k. k.entries) c.counts-counts.ensures);
      keys = omega (arith, ap (λ k. k.keys) c.counts-counts.ensures);
      groups = omega (arith, ap (λ k. k.groups) c.counts-counts.ensures);
      cells = omega (arith, ap (λ k. k.cells) c.counts-counts.ensures);
      keysyms = omega (arith, ap (λ k. k.keysyms) c.counts-counts.ensures);
      indicators = omega (arith, ap (λ k. k.indicators) c.counts-counts.ensures);
      group_names = omega (arith, ap (λ k. k.group_names) c.counts-counts.ensures);
      names = omega (arith, ap (λ k. k.names) c.counts-counts.ensures);
    } in
    let keys = c.in_ok-key_names.ensures.ok in
    whole_is_sound (g.R.Rows.content c.args.rows.now) c.in_ok-type_names.type_names c.in_ok-key_names.key_names keys.0 c.in_ok-names.names fit
    c.in_ok-check_groups.ensures.ok c.in_ok-type_names.ensures.ok keys.1 c.in_ok-check_cells.ensures.ok c.in_ok-check_keysyms.ensures.ok
    c.in_ok-names.ensures.ok c.in_ok-check_group_names.ensures.ok c.in_ok-check_entries.ensures.ok c.in_ok-check_key_bytes.ensures.ok
    c.in_ok-check_type_names.ensures.ok c.in_ok-check_key_names.ensures.ok c.in_ok-check_indicator_names.ensures.ok
