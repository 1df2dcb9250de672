use Rattle.std.proofs.Common.{rules, false}
use Rattle.std.specs.Fmt.{digits}
use Rattle.console.proofs.Zeros.{padded_16}
use Rattle.console.proofs.print_hex.Goals as goal

pub returns : goal.returns
returns g c = search (rules, c.in_radix.ensures, c.laid_out.ensures, padded_16 (digits 16 false c.args.n))
