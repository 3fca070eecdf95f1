use Rattle.std.proofs.Common.{refl, inl, inr}
use Rattle.std.specs.Prelude.{pos}
use Rattle.trdp_pd.specs.declared.object.Reason.TheVariants.{Done}
use Rattle.trdp_model.specs.Records.{Indicates, NotifiedIs, AskedIs, RepliedIs, ConfirmedIs}
use Rattle.trdp_model.specs.Records.{ClosedIs}
use Rattle.trdp_net.specs.ExampleTerms.{example_session, notice_told, request_told, query_told}
use Rattle.trdp_net.proofs.ExamplePremiseLemmas.{single, typed_steps, own_places}
use Rattle.trdp_net.proofs.ExampleRunLemmas.{turns_are, told_at, sent_is, history_fresh}
use Rattle.trdp_net.proofs.ExampleRunLemmas.{shows_valid}
use Rattle.trdp_net.proofs.example.the_promises_are_not_empty.Goals as goal

pub returns-clause-premises : goal.returns-clause-premises
returns-clause-premises c = (single, typed_steps, history_fresh, own_places)

pub returns-clause-told : goal.returns-clause-told
returns-clause-told c = turns_are

pub returns-clause-sent : goal.returns-clause-sent
returns-clause-sent c = sent_is

pub returns-clause-valid : goal.returns-clause-valid
returns-clause-valid c = shows_valid

pub returns-clause-notified : goal.returns-clause-notified
returns-clause-notified c =
    told_at 8 _ (Indicates (NotifiedIs 2 notice_told)) refl (inl refl)

pub returns-clause-asked : goal.returns-clause-asked
returns-clause-asked c =
    told_at 10 _ (Indicates (AskedIs 2 3 example_session request_told)) refl (inl refl)

pub returns-clause-replied : goal.returns-clause-replied
returns-clause-replied c =
    told_at 13 _ (Indicates (RepliedIs 2 query_told)) refl (inl refl)

pub returns-clause-confirmed : goal.returns-clause-confirmed
returns-clause-confirmed c = told_at 16 _ (Indicates (ConfirmedIs 3 (pos 3))) refl (inl refl)

pub returns-clause-done : goal.returns-clause-done
returns-clause-done c =
    told_at 15 _ (Indicates (ClosedIs 2 Done)) refl (inr (inr (inl refl)))
