use Rattle.std.proofs.Common.{◌≡◌, ◌+◌, ◌∙◌, [], ◌∷◌, ◌++◌, sym, ap}
use Rattle.std.proofs.Common.{refl, arith, length, true, false, is_err}
use Rattle.trdp_memory.specs.contracts.memory_wire.MemoryWire.{the_view}
use Rattle.trdp_memory.specs.MemoryWires.{after_give, is_failing, is_give_beyond, next_give_fails}
use Rattle.trdp_memory.specs.Rows.{gives_of}
use Rattle.trdp_wire.specs.Told.{Give, give_of, offer_to}
use Rattle.trdp_memory.proofs.GiveRowLemmas.{gives_many}
use Rattle.trdp_memory.proofs.MemoryWireLemmas.{fails_beyond, fails_within, give_beyond}
use Rattle.trdp_memory.proofs.MemoryWireLemmas.{give_within}
use Rattle.trdp_memory.proofs.memory_wire.MemoryWireWire.give.Goals as goal

pub returns-then-is_give_beyond-clause-fails : goal.returns-then-is_give_beyond-clause-fails
returns-then-is_give_beyond-clause-fails c =
    let w = the_view c.self.inside in
    let n = length c.args.bytes.now in
    let beyond : is_give_beyond w n ≡ true = ap (λ x. is_give_beyond x n) c.self.view_is
    ∙ sym c.is_give_beyond.ensures.beyond ∙ c.if-is_give_beyond.true in
    fails_beyond w n (is_err c.fail-result.result) beyond c.fail-result.ensures.fails
    ∙ ap (λ x. next_give_fails x n) c.self.view_is

pub returns-then-is_give_beyond-clause-after : goal.returns-then-is_give_beyond-clause-after
returns-then-is_give_beyond-clause-after c =
    let w = the_view c.self.inside in
    let n = length c.args.bytes.now in
    let give = give_of c.args.port c.args.to c.args.bytes.now c.fail-result.result in
    let beyond : is_give_beyond w n ≡ true = ap (λ x. is_give_beyond x n) c.self.view_is
    ∙ sym c.is_give_beyond.ensures.beyond ∙ c.if-is_give_beyond.true in
    give_beyond w give c.fail-result.new.failures c.keep_refusal.new.refusal beyond
    c.fail-result.ensures.count c.keep_refusal.ensures
    ∙ ap (λ x. after_give x give) c.self.view_is

pub returns-clause-fails : goal.returns-clause-fails
returns-clause-fails c =
    let w = the_view c.self.inside in
    let n = length c.args.bytes.now in
    let within : is_give_beyond w n ≡ false = ap (λ x. is_give_beyond x n) c.self.view_is
    ∙ sym c.is_give_beyond.ensures.beyond ∙ c.if-is_give_beyond.false in
    let many : c.len.result ≡ length c.self.inside.given.items = omega (arith, c.len.ensures) in
    let which :
    c.is_failing-fails.result ≡ is_failing w.laid_down.failing_gives (length w.gives + 1) =
    c.is_failing-fails.ensures ∙ ap (λ l. is_failing l (c.len.result + 1)) c.deref.ensures.value
    ∙ ap (λ k. is_failing c.self.inside.failing_gives.items (k + 1)) (many
    ∙ sym (gives_many c.self.inside.given.items c.self.inside.bytes.items)) in
    fails_within w n c.is_failing-fails.result (is_err c.fail_if-result.result)
    within which c.fail_if-result.ensures.fails ∙ ap (λ x. next_give_fails x n) c.self.view_is

pub returns-clause-after : goal.returns-clause-after
returns-clause-after c =
    let w = the_view c.self.inside in
    let n = length c.args.bytes.now in
    let give = give_of c.args.port c.args.to c.args.bytes.now c.fail_if-result.result in
    let within : is_give_beyond w n ≡ false = ap (λ x. is_give_beyond x n) c.self.view_is
    ∙ sym c.is_give_beyond.ensures.beyond ∙ c.if-is_give_beyond.false in
    let before = gives_of c.self.inside.bytes.items c.self.inside.given.items in
    let more : gives_of c.push_give.new.held.items c.push_give.new.given.items
    ≡ before ++ give ∷ [] =
    c.push_give.ensures.gives ∙ ap (λ b. before ++ (let g : Give =
    record { offer = offer_to c.args.port c.args.to c.args.bytes.now; failed = b } in g) ∷ [])
    c.is_err.ensures.value in
    give_within w give _ c.fail_if-result.new.failures
    _ _ c.keep_refusal-2.new.refusal within more c.fail_if-result.ensures.count
    c.keep_refusal-2.ensures
    (omega (arith, c.push_give.ensures.given_len, c.push_give.ensures.given_capacity)) refl
    ∙ ap (λ x. after_give x give) c.self.view_is
