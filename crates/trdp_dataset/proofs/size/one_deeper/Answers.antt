use Rattle.trdp_dataset.specs.Limits.{size_cap}
use Rattle.std.proofs.Common.{suc, rules}
use Rattle.std.specs.Prelude.{min}
use Rattle.trdp_dataset.specs.ZeroSizes.{dataset_size}
use Rattle.trdp_dataset.proofs.RowLemmas.{row_turn}
use Rattle.trdp_dataset.proofs.size.one_deeper.Goals as goal

pub loop-i-preserved : goal.loop-i-preserved
loop-i-preserved c = record {
  len = search rules;
  row = λ depth h. row_turn (λ id. min (dataset_size c.args.datasets.now (suc depth) id) size_cap)
      c.args.datasets.now c.loop-i.i c.id_at.result
      c.dataset_size.result c.loop-i.next.items c.push.new.self.items c.id_at.ensures.value
      (c.dataset_size.ensures depth h) (c.loop-i.invariant.row depth h) c.in_ok-push.ensures.items;
}
