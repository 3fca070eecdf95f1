-- The objects that a telegram may be for according to comId and session, and how many there are.
use Rattle.std.specs.Prelude.{ℕ, ◌==◌, ◌||◌, List}
use Rattle.std.specs.Prelude.{count_by, sum_by, Option, Some, None, Bool, true, false}
use Rattle.trdp_head.specs.declared.md.MdHead.{MdHead}
use Rattle.trdp_head.specs.declared.md.MdKind.{MdKind}
use Rattle.trdp_head.specs.declared.md.MdKind.TheVariants as message
use Rattle.trdp_filter.specs.Telegrams.{TelegramModel, PdIs, MdIs}
use Rattle.trdp_model.specs.declared.any_object.AnyObject.{AnyObject}
use Rattle.trdp_model.specs.declared.any_object.AnyObject.TheVariants.{Publisher, Subscription}
use Rattle.trdp_model.specs.declared.any_object.AnyObject.TheVariants.{Listener}
use Rattle.trdp_table.specs.Tables.{all_quotas}
use Rattle.trdp_model.specs.Slots.{Entry, SlotState}
use Rattle.trdp_model.specs.Requests.{is_of_session}
use Rattle.trdp_datagrams.specs.Sought.{sought_by}

-- there is a comId, and it is that one
abbrev pub is_that : ℕ → Option ℕ → Bool
is_that com_id None = false
is_that com_id (Some own) = own == com_id

-- the object is a publisher, a subscription or a listener of that comId
abbrev pub is_of_com : ℕ → AnyObject → Bool
is_of_com com_id (Publisher p) = p.terms.com_id == com_id
is_of_com com_id (Subscription s) = s.terms.filter.com_id == com_id
is_of_com com_id (Listener l) = is_that com_id l.filter.com_id
is_of_com com_id object = false

-- there is no comId
abbrev pub is_any : Option ℕ → Bool
is_any None = true
is_any (Some own) = false

-- the object is a listener of any comId
abbrev pub is_of_any : AnyObject → Bool
is_of_any (Listener l) = is_any l.filter.com_id
is_of_any object = false

-- a message of this type may be for the object, according to comId and session: a notification or
-- request for one of its comId and for a listener of any, all others for a caller or replier of
-- its session
abbrev pub is_meant_as : MdKind → MdHead → AnyObject → Bool
is_meant_as message.Notify head object = is_of_com head.com_id object || is_of_any object
is_meant_as message.Request head object = is_of_com head.com_id object || is_of_any object
is_meant_as message.Reply head object = is_of_session head.session object
is_meant_as message.Query head object = is_of_session head.session object
is_meant_as message.Confirm head object = is_of_session head.session object
is_meant_as message.Error head object = is_of_session head.session object

-- a telegram may be for the object, according to comId and session: process data for one of its
-- comId, a pull request for one of the comId that it asks for
abbrev pub is_meant : TelegramModel → AnyObject → Bool
is_meant (PdIs src dst telegram) object = is_of_com (sought_by telegram.head) object
is_meant (MdIs src dst telegram) object = is_meant_as telegram.head.kind telegram.head object

-- how many of these objects a telegram may be for
abbrev pub meant_in : TelegramModel → List Entry → ℕ
meant_in telegram objects = count_by (λ entry. is_meant telegram entry.object) objects

-- how many objects of the slots a telegram may be for
abbrev pub meant_of : TelegramModel → List SlotState → ℕ
meant_of telegram slots = sum_by (λ slot. meant_in telegram slot.objects) slots

-- how many objects the quotas of the slots allow together
abbrev pub quota_total : List SlotState → ℕ
quota_total slots = sum_by (λ slot. all_quotas slot.quotas) slots
