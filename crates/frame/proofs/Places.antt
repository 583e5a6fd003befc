-- Laws of a refusal's place: it is the byte that holds the first bit of the field, so the byte there shows the field.
use Rattle.std.proofs.Common.{◌≡◌, ℕ, ◌*◌, ◌<◌, ◌≤◌, eqb, List, length, sym, refl, ap, ◌∙◌, arith, ne_eqb, eqb-true}
use borrow.Author.Tests.{eqb-false}
use Rattle.combine.proofs.Tests.{cases}
use Rattle.hall.specs.Refusals.{in_order, short_frame, bad_version, bad_DHL, bad_flags, bad_PF}
use Rattle.hall.proofs.Asks.{order_among}
use Rattle.words.specs.Words.{Bytes}
use Rattle.frame.specs.Layout.{version, DHL, flags, front, word_at}
use Rattle.frame.specs.Asks.{asks_whole, field_asks, frame_refusal}
use Rattle.frame.specs.Places.{byte_of, place_in, place_of, FirstByte, Places, Shown}
use Rattle.frame.specs.Reading.{read_frame, PlaceTold}
use Rattle.frame.specs.Worked.{places_told}
use Rattle.frame.proofs.Rows.{version_in, DHL_in, flags_in}
use Rattle.frame.proofs.Frames.{frame_short, frame_header, frame_whole}

first_byte : (field : ℕ) → FirstByte field (byte_of field)
unfolding byte_of
first_byte field = record { from = omega arith; before = omega arith }

-- a number that is none of the four
pub no_place : (number : ℕ) → (number ≡ bad_version → ⊥) → (number ≡ bad_DHL → ⊥) → (number ≡ bad_flags → ⊥) → (number ≡ bad_PF → ⊥) → place_of number ≡ 0
unfolding place_of place_in
no_place number v d f p =
    rw (ne_eqb bad_version number (λ e. v (omega arith)), ne_eqb bad_DHL number (λ e. d (omega arith)), ne_eqb bad_flags number (λ e. f (omega arith)), ne_eqb bad_PF number (λ e. p (omega arith)))

pub places : Places
unfolding place_of place_in
places = record {
  of_version = first_byte version;
  of_DHL = first_byte DHL;
  of_flags = first_byte flags;
  of_PF = first_byte flags;
  of_others = λ number h. no_place number (λ e. h (omega arith) (omega arith)) (λ e. h (omega arith) (omega arith)) (λ e. h (omega arith) (omega arith)) (λ e. h (omega arith) (omega arith));
}

-- no refusal tells no place, and neither does what is asked before version, DHL and flags or behind them
pub none_told : (place_of 0 ≡ 0) × (place_of short_frame ≡ 0)
unfolding place_of place_in
none_told = (refl, refl)

whole_told : (size : ℕ) (values : ℕ → ℕ) (sum : ℕ) → place_of (in_order (asks_whole size values sum)) ≡ 0
unfolding asks_whole place_of place_in
whole_told size values sum = order_among (λ number. place_of number ≡ 0) (asks_whole size values sum) refl (refl, (refl, (refl, (refl, tt))))

module _ (frame : List ℕ) where
  place_refused : (read_frame frame).place ≡ place_of (frame_refusal frame)
  place_refused =
      cases (eqb (frame_refusal frame) 0)
      (λ q. let z = eqb-true (frame_refusal frame) 0 q in rw q (sym (ap place_of z ∙ none_told.0)))
      (λ q. rw q)

  -- a read tells the place of its own number
  number_place : (read_frame frame).place ≡ place_of (read_frame frame).refusal
  number_place =
      place_refused
      ∙ ap place_of (cases (eqb (frame_refusal frame) 0) (λ q. rw q (eqb-true (frame_refusal frame) 0 q)) (λ q. rw q))

  -- a frame that is too short for any header tells none
  pub short_place : length frame < 4 * length front → 0 ≡ (read_frame frame).place
  short_place h = sym (place_refused ∙ ap place_of (sym (frame_short frame h)) ∙ none_told.1)

  -- and any other that of its version, DHL and flags
  pub fields_place : 4 * length front ≤ length frame → place_of (in_order (field_asks frame)) ≡ (read_frame frame).place
  fields_place h =
      cases (eqb (in_order (field_asks frame)) 0)
      (λ q.
      let z = eqb-true (in_order (field_asks frame)) 0 q in
      ap place_of z ∙ none_told.0 ∙ sym (place_refused ∙ ap place_of (sym (frame_whole frame h z)) ∙ whole_told _ _ _))
      (λ q. ap place_of (frame_header frame h (eqb-false (in_order (field_asks frame)) 0 q)) ∙ sym place_refused)

pub place_read : PlaceTold
place_read frame = number_place frame

pub shown : (frame : List ℕ) → Bytes frame → Shown frame
unfolding word_at
shown frame fit =
    let p = places_told in
    let w = fit.below in
    record {
      of_version = rw (version_in (word_at frame), p.0) (omega (arith, w 0, w 1, w 2, w 3));
      of_DHL = rw (DHL_in (word_at frame), p.1) (omega (arith, w 0, w 1, w 2, w 3));
      of_flags = rw (flags_in (word_at frame), p.2) (omega (arith, w 8, w 9, w 10, w 11));
      of_PF = rw (flags_in (word_at frame), p.3) (omega (arith, w 8, w 9, w 10, w 11));
    }
