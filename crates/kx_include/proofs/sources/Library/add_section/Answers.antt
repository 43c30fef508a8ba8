use Rattle.kx_include.proofs.sources.Library.add_section.Goals as goal

pub returns-clause-added : goal.returns-clause-added
returns-clause-added c = record { map = c.in_ok-map.map; sections = c.in_ok-push.ensures.items; expands = c.in_ok-map.ensures.made }
