-- Records by their index, and what of their numbers no part changes.
use Rattle.std.proofs.Common.{◌≡◌, ℕ, zero, suc, ◌+◌, List, [], ◌∷◌, ◌++◌, length, refl, ap, ◌∙◌}
use Rattle.std.proofs.Common.{sym, arith, append-nil, length-append}
use Rattle.std.specs.Prelude.{slice_get, Some, None}
use Rattle.std.proofs.lemmas.Option.{slice_get_past}
use Rattle.trdp_model.specs.Records.{RecordModel, Content, Answers, Indicates, Sends}
use Rattle.trdp_model.specs.Records.{HandleIs, DoneIs, ValueIs, RefusedIs, OpenedIs}
use Rattle.trdp_model.specs.Records.{SilentIs, AliveIs, NotifiedIs, AskedIs, OverrunIs, RepliedIs}
use Rattle.trdp_model.specs.Records.{ConfirmedIs, ClosedIs}
use Rattle.trdp_node.specs.RecordOf.{with_answer, with_content, with_indication, with_message}
use Rattle.trdp_node.specs.RecordOf.{with_reply}
use Rattle.trdp_node.specs.declared.record.RecordNumbers.{RecordNumbers}

-- one more record came
pub longer : (done : List RecordModel) (r : RecordModel)
    → length (done ++ r ∷ []) ≡ length done + 1
longer done r = length-append done (r ∷ [])

-- the record that comes after those that came
pub found_there : (done rest : List RecordModel) (r : RecordModel)
    → slice_get (done ++ r ∷ rest) (length done) ≡ Some r
found_there [] rest r = refl
found_there (x ∷ done) rest r = found_there done rest r

-- the place of its bytes is nothing that the content says
pub bytes_stay : (content : Content) (n : RecordNumbers) → (with_content content n).bytes ≡ n.bytes
unfolding with_content with_answer with_indication with_message with_reply
bytes_stay (Answers (HandleIs handle)) n = refl
bytes_stay (Answers DoneIs) n = refl
bytes_stay (Answers (ValueIs peek)) n = refl
bytes_stay (Answers (RefusedIs refusal)) n = refl
bytes_stay (Answers OpenedIs) n = refl
bytes_stay (Indicates (SilentIs handle)) n = refl
bytes_stay (Indicates (AliveIs handle)) n = refl
bytes_stay (Indicates (NotifiedIs handle message)) n = refl
bytes_stay (Indicates (AskedIs listener replier session message)) n = refl
bytes_stay (Indicates (OverrunIs listener)) n = refl
bytes_stay (Indicates (RepliedIs handle reply)) n = refl
bytes_stay (Indicates (ConfirmedIs handle status)) n = refl
bytes_stay (Indicates (ClosedIs handle reason)) n = refl
bytes_stay (Sends protocol to telegram) n = refl
