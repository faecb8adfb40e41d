-- `lay` puts an answer, or a refusal: either has few words.
-- Assumes nothing.
use Rattle.std.proofs.Common.{arith}
use Rattle.answers.proofs.Results.{few_result}
use Rattle.calls.proofs.Forms.{count_same}
use Rattle.calls.proofs.laying.lay.Goals as goal

pub narrow-requires : goal.narrow-requires
narrow-requires g c =
    let f = few_result g.A.Answer.words g.met.A.Answer.few c.args.r in
    omega (arith, c.put_result-n.ensures.count, f)

pub returns : goal.returns
returns g c =
    let f = few_result g.A.Answer.words g.met.A.Answer.few c.args.r in
    record {
      laid = count_same _ _ _ _ _ c.narrow.ensures c.put_result-n.ensures;
      few = omega (arith, c.narrow.ensures, c.put_result-n.ensures.count, f);
    }
