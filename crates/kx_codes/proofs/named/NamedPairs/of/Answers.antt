use Rattle.kx_codes.proofs.Numbering.{codes_found}
use Rattle.kx_codes.proofs.Standing.{agreed}
use Rattle.kx_codes.specs.Indexed.{both}
use Rattle.kx_codes.proofs.named.NamedPairs.of.Goals as goal

pub invariant_of-result : goal.invariant_of-result
invariant_of-result c =
    let stands = c.in_ok-by_code.ensures.stand c.requires.stand.0 c.requires.stand.1 in (
      codes_found c.args.names c.requires.once c.args.pairs c.requires.stand.0 c.in_ok-by_code.by_code c.requires.stand.1 stands,
      agreed (both c.in_ok-by_code.by_code) c.requires.stand.0 stands,
    )

pub returns-clause-agree : goal.returns-clause-agree
returns-clause-agree c = agreed (both c.in_ok-by_code.by_code) c.requires.stand.0 (c.in_ok-by_code.ensures.stand c.requires.stand.0 c.requires.stand.1)
