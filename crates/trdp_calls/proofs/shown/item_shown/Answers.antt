use Rattle.std.proofs.Common.{ap}
use Rattle.trdp_pd.specs.Peeks.{PeekModel}
use Rattle.trdp_model.specs.Configs.{setup_of}
use Rattle.trdp_calls.proofs.CallLemmas.Shown.{never_shape, never_too_long}
use Rattle.trdp_calls.proofs.CallLemmas.Shown.{shows_none, lacks_memory, shows_item}
use Rattle.trdp_calls.proofs.shown.item_shown.Goals as goal

pub unreachable-requires : goal.unreachable-requires
unreachable-requires c =
    never_shape (setup_of c.args.config.now) c.args.subscription.now
    c.registry.result.now c.dataset-dataset.result c.peek.result.bytes.now c.requires
    (record {
      registry_is = c.registry.ensures.value;
      dataset_is = c.dataset-dataset.ensures;
      bytes_are = ap (λ (p : PeekModel). p.bytes) c.peek.ensures.shown;
    })
    (rw c.in-Err-Shape.field-0-is at c.in-Err-Shape.ensures.fault)

pub unreachable-requires-in-Err-TooLong : goal.unreachable-requires-in-Err-TooLong
unreachable-requires-in-Err-TooLong c =
    never_too_long (setup_of c.args.config.now) c.args.subscription.now
    c.registry.result.now c.dataset-dataset.result c.peek.result.bytes.now c.requires
    (record {
      registry_is = c.registry.ensures.value;
      dataset_is = c.dataset-dataset.ensures;
      bytes_are = ap (λ (p : PeekModel). p.bytes) c.peek.ensures.shown;
    })
    (rw c.in-Err-TooLong.field-0-is at c.in-Err-TooLong.ensures.fault)

pub returns-in-Ok : goal.returns-in-Ok
returns-in-Ok c =
    shows_item (setup_of c.args.config.now) c.args.subscription.now c.registry.result.now
    c.dataset-dataset.result c.peek.result.bytes.now c.in-Ok.item c.requires
    (record {
      registry_is = c.registry.ensures.value;
      dataset_is = c.dataset-dataset.ensures;
      bytes_are = ap (λ (p : PeekModel). p.bytes) c.peek.ensures.shown;
    })
    c.in-Ok.ensures.fault c.in-Ok.ensures.value

pub returns-in-Err-NoDataset : goal.returns-in-Err-NoDataset
returns-in-Err-NoDataset c =
    shows_none (setup_of c.args.config.now) c.args.subscription.now
    c.registry.result.now c.dataset-dataset.result c.peek.result.bytes.now c.requires
    (record {
      registry_is = c.registry.ensures.value;
      dataset_is = c.dataset-dataset.ensures;
      bytes_are = ap (λ (p : PeekModel). p.bytes) c.peek.ensures.shown;
    })
    (rw c.in-Err-NoDataset.field-0-is at c.in-Err-NoDataset.ensures.fault)

pub returns-in-Err-OutOfMemory : goal.returns-in-Err-OutOfMemory
returns-in-Err-OutOfMemory c =
    lacks_memory (setup_of c.args.config.now) c.args.subscription.now
    c.registry.result.now c.dataset-dataset.result c.peek.result.bytes.now c.requires
    (record {
      registry_is = c.registry.ensures.value;
      dataset_is = c.dataset-dataset.ensures;
      bytes_are = ap (λ (p : PeekModel). p.bytes) c.peek.ensures.shown;
    })
    (rw c.in-Err-OutOfMemory.field-0-is at c.in-Err-OutOfMemory.ensures.fault)
