-- A written telegram has its length, and its fields are read back.
-- For the lemmas on written telegrams of both kinds.
-- By: a part of the header is that part of the telegram.
use Rattle.std.proofs.Common.{◌≡◌, ℕ, ◌+◌, ◌-◌, ◌^◌, ◌<◌, ◌≤◌, true, List, ◌++◌}
use Rattle.std.proofs.Common.{length, slice_index, take, drop, refl, sym, ap}
use Rattle.std.proofs.Common.{◌∙◌, arith, eq-eqb, length-append, append_assoc}
use Rattle.std.proofs.lemmas.List.{length-replicate, take_at, drop_at}
use Rattle.std.proofs.lemmas.List.{take-append-le, drop-append-le, length-drop}
use Rattle.trdp_base.specs.Numbers.{be, le}
use Rattle.trdp_fcs.specs.FrameCheck.{frame_check_of}
use Rattle.trdp_fcs.proofs.FrameCheckLemmas.{frame_check_of-lt}
use Rattle.trdp_head.specs.declared.prefix.Prefix.{Prefix}
use Rattle.trdp_head.specs.Fields.{field, little_field, be_bytes, le_bytes}
use Rattle.trdp_head.specs.Checks.{is_checked, with_check}
use Rattle.trdp_head.specs.Prefixes.{prefix_bytes, IsPrefix}
use Rattle.trdp_head.specs.IsTelegram.{IsTelegram}
use Rattle.trdp_head.specs.TelegramBytes.{rounded_of, padding_of, telegram_bytes}
use Rattle.trdp_head.proofs.FieldByteLemmas.{be-be_bytes, le-le_bytes}

check_of : List ℕ → List ℕ
check_of header = le_bytes 4 (frame_check_of header)

length-check : (header : List ℕ) → length (check_of header) ≡ 4
unfolding check_of le_bytes be_bytes
length-check header = refl

-- a telegram as its header and what follows
telegram_split : (header payload : List ℕ) → telegram_bytes header payload
    ≡ header ++ (check_of header ++ (payload ++ padding_of (length payload)))
unfolding telegram_bytes with_check check_of
telegram_split header payload =
    append_assoc (header ++ check_of header) payload (padding_of (length payload))
    ∙ append_assoc header (check_of header) (payload ++ padding_of (length payload))

pub length-telegram_bytes : (header payload : List ℕ)
    → length (telegram_bytes header payload) ≡ length header + 4 + rounded_of (length payload)
length-telegram_bytes header payload =
    let n : ℕ = length payload in
    let zeros : List ℕ = padding_of n in
    let behind : length (payload ++ zeros) ≡ n + (rounded_of n - n) = length-append payload zeros
    ∙ ap (λ (k : ℕ). n + k) (length-replicate (rounded_of n - n) 0) in
    let checked : length (check_of header ++ (payload ++ zeros)) ≡ length (check_of header)
    + length (payload ++ zeros) = length-append (check_of header) (payload ++ zeros) in
    ap length (telegram_split header payload)
    ∙ length-append header (check_of header ++ (payload ++ zeros))
    ∙ omega (arith, behind, checked, length-check header)

-- a part of the header is a part of the telegram
pub part-telegram : (offset n : ℕ) (header payload : List ℕ) → offset + n ≤ length header
    → take n (drop offset (telegram_bytes header payload)) ≡ take n (drop offset header)
part-telegram offset n header payload h =
    let rest : List ℕ = check_of header ++ (payload ++ padding_of (length payload)) in
    ap (λ (bytes : List ℕ). take n (drop offset bytes)) (telegram_split header payload)
    ∙ ap (take n) (drop-append-le offset header rest (omega arith))
    ∙ take-append-le n (drop offset header) rest (omega (arith, length-drop offset header))

pub field-telegram : (offset n : ℕ) (header payload : List ℕ) → offset + n ≤ length header
    → field offset n (telegram_bytes header payload) ≡ field offset n header
unfolding field
field-telegram offset n header payload h = ap be (part-telegram offset n header payload h)

checked-telegram : (size : ℕ) (header payload : List ℕ)
    → length header ≡ size - 4 → is_checked (size - 4) (telegram_bytes header payload) ≡ true
unfolding is_checked little_field check_of
checked-telegram size header payload len =
    let check : ℕ = frame_check_of header in
    let rest : List ℕ = payload ++ padding_of (length payload) in
    let covered : take (size - 4) (telegram_bytes header payload) ≡ header =
    ap (take (size - 4)) (telegram_split header payload)
    ∙ take_at header (check_of header ++ rest) (size - 4) len in
    let stored : take 4 (drop (size - 4) (telegram_bytes header payload)) ≡ check_of header =
    ap (λ (bytes : List ℕ). take 4 (drop (size - 4) bytes)) (telegram_split header payload)
    ∙ ap (take 4) (drop_at header (check_of header ++ rest) (size - 4) len)
    ∙ take_at (check_of header) rest 4 (length-check header) in
    eq-eqb _ _ (ap le stored ∙ le-le_bytes 4 check (frame_check_of-lt header)
    ∙ ap frame_check_of (sym covered))

content-telegram : (size : ℕ) (header payload : List ℕ) → length header + 4 ≡ size
    → take (length payload) (drop size (telegram_bytes header payload)) ≡ payload
unfolding telegram_bytes with_check check_of
content-telegram size header payload len =
    let zeros : List ℕ = padding_of (length payload) in
    let front : List ℕ = header ++ check_of header in
    let front_len : length front ≡ size = length-append header (check_of header)
    ∙ omega (arith, len, length-check header) in
    ap (λ (bytes : List ℕ). take (length payload) (drop size bytes))
    (append_assoc front payload zeros)
    ∙ ap (take (length payload)) (drop_at front (payload ++ zeros) size front_len)
    ∙ take_at payload zeros (length payload) refl

-- the fields that all headers begin with
field-counter : (prefix : Prefix) (n : ℕ) (more : List ℕ)
    → prefix.counter < 256 ^ 4 → field 0 4 (prefix_bytes prefix n ++ more) ≡ prefix.counter
unfolding be_bytes field
field-counter prefix n more h = be-be_bytes 4 prefix.counter h

field-code : (prefix : Prefix) (n : ℕ) (more : List ℕ)
    → prefix.code < 256 ^ 2 → field 6 2 (prefix_bytes prefix n ++ more) ≡ prefix.code
unfolding be_bytes field
field-code prefix n more h = be-be_bytes 2 prefix.code h

field-com_id : (prefix : Prefix) (n : ℕ) (more : List ℕ)
    → prefix.com_id < 256 ^ 4 → field 8 4 (prefix_bytes prefix n ++ more) ≡ prefix.com_id
unfolding be_bytes field
field-com_id prefix n more h = be-be_bytes 4 prefix.com_id h

field-etb : (prefix : Prefix) (n : ℕ) (more : List ℕ)
    → prefix.topo.etb < 256 ^ 4 → field 12 4 (prefix_bytes prefix n ++ more) ≡ prefix.topo.etb
unfolding be_bytes field
field-etb prefix n more h = be-be_bytes 4 prefix.topo.etb h

field-op_trn : (prefix : Prefix) (n : ℕ) (more : List ℕ)
    → prefix.topo.op_trn < 256 ^ 4 → field 16 4 (prefix_bytes prefix n ++ more) ≡ prefix.topo.op_trn
unfolding be_bytes field
field-op_trn prefix n more h = be-be_bytes 4 prefix.topo.op_trn h

field-length : (prefix : Prefix) (n : ℕ) (more : List ℕ)
    → n < 256 ^ 4 → field 20 4 (prefix_bytes prefix n ++ more) ≡ n
unfolding be_bytes field
field-length prefix n more h = be-be_bytes 4 n h

version-prefix : (prefix : Prefix) (n : ℕ) (more : List ℕ)
    → slice_index (prefix_bytes prefix n ++ more) 4 ≡ 1
unfolding be_bytes
version-prefix prefix n more = refl

length-prefix_bytes : (prefix : Prefix) (n : ℕ) → length (prefix_bytes prefix n) ≡ 24
unfolding be_bytes
length-prefix_bytes prefix n = refl

-- what is written is read back
pub IsTelegram-telegram_bytes : (size longest : ℕ) (prefix : Prefix) (more header payload : List ℕ)
    → header ≡ prefix_bytes prefix (length payload) ++ more
    → length header + 4 ≡ size → IsPrefix prefix
    → size + rounded_of (length payload) ≤ longest → length payload < 256 ^ 4
    → IsTelegram size longest (telegram_bytes header payload) prefix payload
IsTelegram-telegram_bytes size longest prefix more header payload begins len h short fits =
    let n : ℕ = length payload in
    let bytes : List ℕ = telegram_bytes header payload in
    let whole = length-telegram_bytes header payload in
    let room : 24 ≤ length header = rw begins
    (omega (arith, length-append (prefix_bytes prefix n) more, length-prefix_bytes prefix n)) in
    let rest : List ℕ = more ++ (check_of header ++ (payload ++ padding_of n)) in
    let split : bytes ≡ prefix_bytes prefix n ++ rest =
    telegram_split header payload
    ∙ ap (λ (front : List ℕ). front ++ (check_of header ++ (payload ++ padding_of n))) begins
    ∙ append_assoc (prefix_bytes prefix n) more (check_of header ++ (payload ++ padding_of n)) in
    let stored : field 20 4 bytes ≡ n = ap (field 20 4) split ∙ field-length prefix n rest fits in
    record {
      long_enough = omega (arith, whole, len);
      short_enough = omega (arith, whole, len, short);
      checked = checked-telegram size header payload (omega (arith, len));
      version = ap (λ (b : List ℕ). slice_index b 4) split ∙ version-prefix prefix n rest;
      code = ap (field 6 2) split ∙ field-code prefix n rest h.code;
      counter = ap (field 0 4) split ∙ field-counter prefix n rest h.counter;
      com_id = ap (field 8 4) split ∙ field-com_id prefix n rest h.com_id;
      etb = ap (field 12 4) split ∙ field-etb prefix n rest h.etb;
      op_trn = ap (field 16 4) split ∙ field-op_trn prefix n rest h.op_trn;
      fits = omega (arith, whole, len, stored);
      content = sym (ap (λ (k : ℕ). take k (drop size bytes)) stored
          ∙ content-telegram size header payload len);
    }
