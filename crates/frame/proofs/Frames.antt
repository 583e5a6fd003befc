-- Laws of a frame's refusal: each ask by the values that it goes by, and that a frame is accepted exactly where all of them hold.
use Rattle.std.proofs.Common.{◌≡◌, ℕ, ◌+◌, ◌*◌, ◌<◌, ◌≤◌, Bool, true, false, eqb, List, length, sym, ◌∙◌, arith, eq-eqb, ne_eqb, eqb-true, le-leb, leb-true}
use borrow.Author.Tests.{eqb-false, lt-leb}
use Rattle.combine.specs.Tests.{either}
use Rattle.combine.proofs.Tests.{cases, either_true}
use Rattle.hall.specs.Refusals.{in_order, short_frame, bad_checksum, bad_address, bad_version, bad_DHL, bad_flags, bad_PF}
use Rattle.frame.specs.Layout.{version, DHL, payload_length, flags, checksum, front, the_version, words_with, is_pf, value_in, word_at}
use Rattle.frame.specs.Asks.{addresses_sound, asks_header, asks_whole, asks_frame, sum_in, field_asks, whole_asks, frame_refusal}
use Rattle.frame.specs.Reading.{header_of, read_frame, behind_header, payload_of}
use Rattle.hall.proofs.Asks.{Numbered, ask_holds, ask_fails, hold_accepted, accepted_hold, front_refuses, front_holds}
use Rattle.frame.proofs.Rows.{words_more, words_flagged}

-- a DHL that counts the words of a header, with a proxy or without
one_of : (w : ℕ) (proxied : Bool) → w ≡ words_with proxied → either (eqb w (words_with false)) (eqb w (words_with true)) ≡ true
one_of w true e = rw (eq-eqb w (words_with true) e) (either_true (eqb w (words_with false)))
one_of w false e = rw (eq-eqb w (words_with false) e)

-- the asks of version, DHL and flags, one after the other
module _ (v w f : ℕ) where
  header_numbered : Numbered (asks_header v w f)
  unfolding asks_header
  header_numbered = (omega arith, (omega arith, (omega arith, (omega arith, tt))))

  pub header_version : (v ≡ the_version → ⊥) → bad_version ≡ in_order (asks_header v w f)
  unfolding asks_header
  header_version d = sym (ask_fails bad_version _ _ (ne_eqb v the_version d))

  module _ (a : v ≡ the_version) where
    pub header_DHL : (w ≡ words_with false → ⊥) → (w ≡ words_with true → ⊥) → bad_DHL ≡ in_order (asks_header v w f)
    unfolding asks_header
    header_DHL d g =
        sym
        (ask_holds bad_version _ _ (eq-eqb v the_version a)
        ∙ ask_fails bad_DHL _ _ (rw (ne_eqb w (words_with false) d) (ne_eqb w (words_with true) g)))

    module _ (l : words_with false ≤ w) (m : w ≤ words_with true) where
      counts : either (eqb w (words_with false)) (eqb w (words_with true)) ≡ true
      counts =
          cases (eqb w (words_with false))
          (λ q. one_of w false (eqb-true w (words_with false) q))
          (λ q. one_of w true (omega (arith, words_more, eqb-false w (words_with false) q)))

      pub header_flags : 1 < f → bad_flags ≡ in_order (asks_header v w f)
      unfolding asks_header
      header_flags h = sym (ask_holds bad_version _ _ (eq-eqb v the_version a) ∙ ask_holds bad_DHL _ _ counts ∙ ask_fails bad_flags _ _ (lt-leb f 1 h))

      module _ (h : f ≤ 1) where
        pub header_disagrees : (w ≡ words_with false + f → ⊥) → bad_PF ≡ in_order (asks_header v w f)
        unfolding asks_header
        header_disagrees d =
            sym
            (ask_holds bad_version _ _ (eq-eqb v the_version a)
            ∙ ask_holds bad_DHL _ _ counts
            ∙ ask_holds bad_flags _ _ (le-leb f 1 h)
            ∙ ask_fails bad_PF _ _ (ne_eqb w (words_with (is_pf f)) (λ e. d (e ∙ words_flagged f h))))

        pub header_agrees : w ≡ words_with false + f → 0 ≡ in_order (asks_header v w f)
        unfolding asks_header
        header_agrees e =
            sym
            (hold_accepted (asks_header v w f)
            (eq-eqb v the_version a, (counts, (le-leb f 1 h, (eq-eqb w (words_with (is_pf f)) (e ∙ sym (words_flagged f h)), tt)))))

  -- DHL and PF agree in a sound header
  pub header_words_lem : in_order (asks_header v w f) ≡ 0 → w ≡ words_with (is_pf f)
  unfolding asks_header
  header_words_lem e = let h = accepted_hold (asks_header v w f) header_numbered e in eqb-true _ _ h.1.1.1.0

-- what is asked once the header is all there, one after the other
module _ (size : ℕ) (values : ℕ → ℕ) (sum : ℕ) where
  pub whole_short : size < 4 * values DHL → short_frame ≡ in_order (asks_whole size values sum)
  unfolding asks_whole
  whole_short h = sym (ask_fails short_frame _ _ (lt-leb (4 * values DHL) size h))

  module _ (h : 4 * values DHL ≤ size) where
    pub whole_checksum : (values checksum ≡ sum → ⊥) → bad_checksum ≡ in_order (asks_whole size values sum)
    unfolding asks_whole
    whole_checksum d = sym (ask_holds short_frame _ _ (le-leb _ _ h) ∙ ask_fails bad_checksum _ _ (ne_eqb _ _ d))

    module _ (s : values checksum ≡ sum) where
      pub whole_address : addresses_sound values ≡ false → bad_address ≡ in_order (asks_whole size values sum)
      unfolding asks_whole
      whole_address q = sym (ask_holds short_frame _ _ (le-leb _ _ h) ∙ ask_holds bad_checksum _ _ (eq-eqb _ _ s) ∙ ask_fails bad_address _ _ q)

      module _ (q : addresses_sound values ≡ true) where
        pub whole_payload : size < 4 * values DHL + values payload_length → short_frame ≡ in_order (asks_whole size values sum)
        unfolding asks_whole
        whole_payload l =
            sym (ask_holds short_frame _ _ (le-leb _ _ h) ∙ ask_holds bad_checksum _ _ (eq-eqb _ _ s) ∙ ask_holds bad_address _ _ q ∙ ask_fails short_frame _ _ (lt-leb _ _ l))

        pub whole_sound : 4 * values DHL + values payload_length ≤ size → 0 ≡ in_order (asks_whole size values sum)
        unfolding asks_whole
        whole_sound l = sym (hold_accepted (asks_whole size values sum) (le-leb _ _ h, (eq-eqb _ _ s, (q, (le-leb _ _ l, tt)))))

-- the asks of a frame, one part after the other
module _ (frame : List ℕ) where
  pub frame_short : length frame < 4 * length front → short_frame ≡ frame_refusal frame
  unfolding frame_refusal asks_frame
  frame_short h = sym (ask_fails short_frame _ _ (lt-leb (4 * length front) (length frame) h))

  module _ (h : 4 * length front ≤ length frame) where
    pub frame_header : (in_order (field_asks frame) ≡ 0 → ⊥) → in_order (field_asks frame) ≡ frame_refusal frame
    unfolding frame_refusal asks_frame
    frame_header d = sym (ask_holds short_frame _ _ (le-leb _ _ h) ∙ front_refuses (field_asks frame) (whole_asks frame) d)

    pub frame_whole : in_order (field_asks frame) ≡ 0 → in_order (whole_asks frame) ≡ frame_refusal frame
    unfolding frame_refusal asks_frame
    frame_whole z =
        sym
        (ask_holds short_frame _ _ (le-leb _ _ h)
        ∙ front_holds (field_asks frame) (whole_asks frame) (accepted_hold (field_asks frame) (header_numbered _ _ _) z))

-- what holds of a frame that is accepted: of its size, its values and the checksum worked out
pub record Sound (size : ℕ) (values : ℕ → ℕ) (sum : ℕ) : Type 0 where
  pub long : 20 ≤ size
  pub versioned : values version ≡ the_version
  pub flagged : values flags ≤ 1
  pub agrees : values DHL ≡ words_with (is_pf (values flags))
  pub whole : 4 * values DHL ≤ size
  pub checked : values checksum ≡ sum
  pub addressed : addresses_sound values ≡ true
  pub paid : 4 * values DHL + values payload_length ≤ size

module _ (size : ℕ) (values : ℕ → ℕ) (sum : ℕ) where
  frame_numbered : Numbered (asks_frame size values sum)
  unfolding asks_frame asks_header asks_whole
  frame_numbered = (
    omega arith,
    (omega arith, (omega arith, (omega arith, (omega arith, (omega arith, (omega arith, (omega arith, (omega arith, tt)))))))),
  )

  holds_sound : in_order (asks_frame size values sum) ≡ 0 → Sound size values sum
  unfolding asks_frame asks_header asks_whole
  holds_sound e =
      let h = accepted_hold (asks_frame size values sum) frame_numbered e in
      record {
        long = leb-true _ _ h.0;
        versioned = eqb-true _ _ h.1.0;
        flagged = leb-true _ _ h.1.1.1.0;
        agrees = eqb-true _ _ h.1.1.1.1.0;
        whole = leb-true _ _ h.1.1.1.1.1.0;
        checked = eqb-true _ _ h.1.1.1.1.1.1.0;
        addressed = h.1.1.1.1.1.1.1.0;
        paid = leb-true _ _ h.1.1.1.1.1.1.1.1.0;
      }

  sound_holds : Sound size values sum → in_order (asks_frame size values sum) ≡ 0
  unfolding asks_frame asks_header asks_whole
  sound_holds s =
      hold_accepted (asks_frame size values sum) (
        le-leb _ _ s.long,
        (
          eq-eqb _ _ s.versioned,
          (
            one_of (values DHL) (is_pf (values flags)) s.agrees,
            (
              le-leb _ _ s.flagged,
              (
                eq-eqb _ _ s.agrees,
                (le-leb _ _ s.whole, (eq-eqb _ _ s.checked, (s.addressed, (le-leb _ _ s.paid, tt)))),
              ),
            ),
          ),
        ),
      )

-- the same of a frame
module _ (frame : List ℕ) where
  abbrev pub SoundFrame : Type 0
  SoundFrame = Sound (length frame) (value_in (word_at frame)) (sum_in frame)

  pub accepted_sound : frame_refusal frame ≡ 0 → SoundFrame
  unfolding frame_refusal
  accepted_sound e = holds_sound (length frame) (value_in (word_at frame)) (sum_in frame) e

  pub sound_accepted : SoundFrame → frame_refusal frame ≡ 0
  unfolding frame_refusal
  sound_accepted s = sound_holds (length frame) (value_in (word_at frame)) (sum_in frame) s

  -- an accepted frame reads as its values, and its payload is the part that they say
  pub accepted_read : frame_refusal frame ≡ 0 → read_frame frame ≡ header_of (value_in (word_at frame))
  accepted_read e = rw e

  pub accepted_payload : frame_refusal frame ≡ 0 → payload_of frame ≡ behind_header frame
  accepted_payload e = rw e

-- what version, DHL and flags bring, ask by ask
pub ruleset header_asked = (header_version, header_DHL, header_flags, header_disagrees, header_agrees)

-- a frame's refusal, by what is asked first, then by its header, then by all of it
pub ruleset frame_asked = (frame_short, frame_header, frame_whole, header_words_lem)
