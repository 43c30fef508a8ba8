use Rattle.std.proofs.Common.{◌≡◌, ◌+◌, ◌-◌, ◌<◌, length, rules}
use Rattle.kx_builder.proofs.Lasts.{last_more}
use Rattle.kx_builder.specs.Added.{last_count}
use Rattle.kx_builder.proofs.tables.add_group.Goals as goal

pub returns-clause-added : goal.returns-clause-added
returns-clause-added c =
    let some : 1 < length c.args.parts.now.keys.items + 1 = search rules in
    let last : c.in_ok-last.last ≡ length c.args.parts.now.keys.items - 1 = search rules in
    let groups : c.in_ok-groups.groups ≡ last_count c.args.parts.now.keys.items + 1 = search rules in
    λ i. record {
      types = c.args.parts.now.types.items;
      entries = c.args.parts.now.entries.items;
      keys = last_more c.args.parts.now.keys.items c.in_ok-last.last c.in_ok-groups.groups c.index_mut.result.now some last c.index_mut.ensures.value groups i;
      groups = c.in_ok-push.ensures.items i;
      cells = c.args.parts.now.cells.items;
      keysyms = c.args.parts.now.keysyms.items;
      indicators = c.args.parts.now.indicators.items;
      group_names = c.args.parts.now.group_names.items;
      names = c.args.parts.now.names.items;
    }
