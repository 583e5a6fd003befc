-- `report::lengths::head_length` meets its contract: the digits of each number, the ending, the spaces behind them and the colon.
use borrow.Author.Rules.{rules}
use native.Mathlib.Omega.{arith}
use Rattle.report.specs.Texts.{space}
use Rattle.report.proofs.Texts.{with_length, head_parts}
use Rattle.report.proofs.lengths.head_length.Goals as goal

pub returns : goal.returns
returns c =
    let p = c.args.p in record {
      length = omega (
        arith,
        c.digits.ensures.length,
        c.digits-2.ensures.length,
        c.ending_length.ensures.length,
        c.digits-3.ensures.length,
        c.digits-4.ensures.length,
        head_parts p,
        with_length space p.source,
        with_length space p.dst,
        with_length space p.links,
        with_length space p.reroutes,
      );
      most = search rules;
    }
