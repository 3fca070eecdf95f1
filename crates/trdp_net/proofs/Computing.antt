-- What a run computes with.
-- For `the_promises_are_not_empty`, by `ExampleRunLemmas`.
-- One word that opens all definitions that a run meets, so that `refl` computes it to its end.
use Rattle.trdp_base.specs.Uris.{uri_field}
use Rattle.trdp_fcs.specs.FrameCheck.{frame_check_of}
use Rattle.trdp_head.specs.Fields.{field, little_field, be_bytes, le_bytes}
use Rattle.trdp_head.specs.Checks.{is_checked, with_check}
use Rattle.trdp_head.specs.Faults.{prefix_fault_of, payload_fault_of, fault_of}
use Rattle.trdp_head.specs.TelegramBytes.{telegram_bytes}
use Rattle.trdp_head.specs.PdBytes.{pd_head_bytes, pd_bytes}
use Rattle.trdp_head.specs.PdFaults.{pd_fault_of}
use Rattle.trdp_head.specs.PdTelegrams.{pd_telegram_of}
use Rattle.trdp_head.specs.MdBytes.{md_head_bytes, md_bytes}
use Rattle.trdp_head.specs.MdFaults.{md_fault_of}
use Rattle.trdp_head.specs.MdTelegrams.{md_telegram_of}
use Rattle.trdp_filter.specs.Addresses.{in_source_range, is_destination}
use Rattle.trdp_filter.specs.Globals.{no_groups, leads}
use Rattle.trdp_filter.specs.MdFilters.{is_com_id, matches_uri, md_passes}
use Rattle.trdp_filter.specs.PdFilters.{pd_passes}
use Rattle.trdp_pd.specs.Publishers.{asks_for_value, asked_com_id, is_asked, is_answered}
use Rattle.trdp_pd.specs.Subscriptions.{deadline_from, first_size, is_stale}
use Rattle.trdp_pd.specs.Subscriptions.{is_for_subscription}
use Rattle.trdp_pd.specs.Subscriptions.{is_accepted_value}
use Rattle.trdp_md.specs.Answers.{has_answered, awaits, awaits_any, confirmed}
use Rattle.trdp_md.specs.Callers.{request_of, confirm_of, is_answer, is_query, is_for_caller}
use Rattle.trdp_md.specs.Callers.{has_place, is_accepted_answer, deadline_after, is_complete}
use Rattle.trdp_md.specs.Callers.{answer_taken}
use Rattle.trdp_md.specs.Callers.{confirming, closed_of}
use Rattle.trdp_md.specs.Listeners.{is_unasked, is_for_listener}
use Rattle.trdp_md.specs.Notifications.{notification_of}
use Rattle.trdp_md.specs.Repliers.{answer_with, awaits_confirm, is_confirm, is_for_replier}
use Rattle.trdp_md.specs.Waiting.{reply_time, reply_by}
use Rattle.trdp_model.specs.Pulls.{answer_place}

-- opens each of these words, where a proof names it under its signature
unfoldable pub computing : Unit {0}
unfolding uri_field frame_check_of field little_field be_bytes le_bytes is_checked with_check
    prefix_fault_of payload_fault_of fault_of telegram_bytes pd_head_bytes pd_bytes pd_fault_of
    pd_telegram_of md_head_bytes md_bytes md_fault_of md_telegram_of in_source_range
    is_destination no_groups leads is_com_id matches_uri md_passes pd_passes asks_for_value
    asked_com_id is_asked is_answered deadline_from first_size is_stale
    is_for_subscription is_accepted_value has_answered awaits awaits_any confirmed request_of
    confirm_of is_answer is_query is_for_caller has_place is_accepted_answer deadline_after
    is_complete
    answer_taken confirming closed_of is_unasked is_for_listener notification_of answer_with
    awaits_confirm
    is_confirm is_for_replier reply_time reply_by answer_place
computing = tt
