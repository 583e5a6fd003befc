-- Worked headers: the bytes and the refusals that the definitions compute.
-- Sections "Frame header" and "Bench cases".
use Rattle.std.specs.Prelude.{ℕ, Bool, true, false, ◌++◌, ◌≡◌, refl}
use Rattle.hall.specs.Refusals.{refusal, bad_address}
use Rattle.rows.specs.Rows.{bits, has, joined, laid, before, offset_in}
use Rattle.frame.specs.Layout.{more_of, offset, bytes_of}
use Rattle.frame.specs.Checksum.{plus_ones, sum_ones, without, checksum_of, halves, checksum_place, header_checksum}
use Rattle.frame.specs.Addresses.{server, broadcast, addresses_fit}
use Rattle.frame.specs.Worked.{frame}
use Rattle.header.specs.declared.Fields.{Fields}
use Rattle.header.specs.Writing.{values_of, sum_of, sealed, header_words, header_bytes, write_refusal}

-- protocol 6, identification 1, retry 5, TTL 15, 0 to 19
abbrev pub fields : Fields
fields =
    record {
      protocol = 6;
      payload_length = 0;
      identification = 1;
      retry = 5;
      ttl = 15;
      source = 0;
      destination = 19;
      has_proxy = false;
      proxy = 0;
    }

pub frame_written : header_bytes fields ≡ frame
unfolding bits joined laid more_of bytes_of has before offset_in offset checksum_place plus_ones sum_ones without checksum_of halves header_checksum values_of sum_of sealed header_words header_bytes
frame_written = refl

-- a broadcast of scope 7, without and with a proxy
abbrev pub everywhere : ℕ
everywhere = 4294967295

abbrev pub sent : Bool → Fields
sent hasProxy =
    record {
      protocol = 6;
      payload_length = 0;
      identification = 1;
      retry = 5;
      ttl = 15;
      source = 0;
      destination = everywhere;
      has_proxy = hasProxy;
      proxy = 7;
    }

pub broadcast_accepted : write_refusal (sent false) frame ≡ 0
unfolding refusal server broadcast addresses_fit more_of write_refusal
broadcast_accepted = refl

pub broadcast_with_proxy : write_refusal (sent true) (frame ++ frame) ≡ bad_address
unfolding refusal server broadcast addresses_fit more_of write_refusal
broadcast_with_proxy = refl
