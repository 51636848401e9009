-- What an event does to a controller between jobs: it leads into no wire turn, the buffer keeps its places, and AA stays 0. Assumes nothing.
use mathlib.Core.Bool.{Bool, true, false}
use mathlib.Core.List.{List, [], ◌∷◌}
use mathlib.Core.Path.{◌≡◌, refl, ap, ◌∙◌}
use Prim.Native.Nat.{ℕ}
use lib.ListN.{length, length-set}
use Rattle.address.specs.declared.matching.Match.TheVariants.{Own, General, Nothing}
use Rattle.address.specs.declared.matching.Match.{Match}
use Rattle.address.specs.declared.number.Direction.TheVariants.{Write, Read}
use Rattle.control.specs.Turn.{off, host, free, busy, listen, wire_turns, kind}
use Rattle.control.specs.declared.flags.Control.{Control}
use Rattle.control.specs.declared.reason.Reason.{Reason}
use Rattle.control.specs.declared.turn.Called.TheVariants as called
use Rattle.control.specs.declared.turn.Called.{Called}
use Rattle.control.specs.declared.turn.Edge.{Edge}
use Rattle.control.specs.declared.turn.Turn.TheVariants as turn
use Rattle.control.specs.declared.turn.Turn.{Turn}
use Rattle.controller.specs.Condition.{own_start, other_start, other_stop, own_stop, addressed, address_byte}
use Rattle.controller.specs.Condition.{outbid, address_lost, data_lost, illegal_edge, data_held, clock_held, idle}
use Rattle.controller.specs.Event.{event_sound, event_of}
use Rattle.controller.specs.Reply.{Outcome, refuses, accepts, waits_for, interrupts_at, changes_status}
use Rattle.controller.specs.Reset.{reset_with}
use Rattle.controller.specs.Transfer.{cursor, data_out, byte_out, received, data_in, slave_in, byte_in}
use Rattle.controller.specs.declared.record.Controller.{Controller}
use Rattle.notation.proofs.Among.{among-has, apart, clash}
use Rattle.notation.proofs.Cases.{split}
use Rattle.notation.specs.Choice.{when◌then◌else◌, among}
use Rattle.port_job.proofs.Ready.{Calm}

module _ (c : Controller) where
  -- the outcome's record is calm if the one before was, has as many places, and AA 0 if it was
  pub record Keeps (o : Outcome) : Type 0 where
    pub calm : Calm c → Calm o.next
    pub sized : length o.next.buffer ≡ length c.buffer
    pub quiet : c.control.aa ≡ false → o.next.control.aa ≡ false

  -- turn and flags stay
  stays : (o : Outcome) → o.next.turn ≡ c.turn → o.next.control ≡ c.control → length o.next.buffer ≡ length c.buffer → Keeps o
  stays o t k l =
      record {
        calm = λ a. record {
          off-wire = rw t a.off-wire;
          disabled = rw (t, k) a.disabled;
        };
        sized = l;
        quiet = λ z. ap (λ (x : Control). x.aa) k ∙ z;
      }

  -- it leads to one of these
  abbrev restful : List ℕ
  restful = host ∷ free ∷ busy ∷ listen ∷ []

  leads : (o : Outcome) → among (kind o.next.turn) restful ≡ true → length o.next.buffer ≡ length c.buffer →
      o.next.control.aa ≡ c.control.aa → Keeps o
  leads o t l a = record {
    calm = λ _. record { off-wire = apart _ restful wire_turns tt t; disabled = λ u. clash _ restful (off ∷ []) tt t u };
    sized = l;
    quiet = λ z. a ∙ z;
  }

  -- it is a reset
  resets : (o : Outcome) → among (kind o.next.turn) (off ∷ []) ≡ true → o.next.control.ensio ≡ false →
      length o.next.buffer ≡ length c.buffer → o.next.control.aa ≡ false → Keeps o
  resets o t e l a =
      record { calm = λ _. record { off-wire = apart _ (off ∷ []) wire_turns tt t; disabled = λ _. e }; sized = l; quiet = λ _. a }

  chosen : (b : Bool) (x y : Outcome) → Keeps x → Keeps y → Keeps (when b then x else y)
  chosen b x y f h = split Keeps b x y (λ _. f) (λ _. h)

  -- the ends of the rules
  refused : (n : ℕ) → Keeps (refuses c n)
  unfolding refuses
  refused n = stays _ refl refl refl

  accepted : (d : Controller) (v : ℕ) → d.turn ≡ c.turn → d.control ≡ c.control → length d.buffer ≡ length c.buffer → Keeps (accepts d v)
  unfolding accepts
  accepted d v t k l = stays _ t k l

  waited : (d : Controller) (t : Turn) (v : ℕ) → among (kind t) restful ≡ true → length d.buffer ≡ length c.buffer →
      d.control.aa ≡ c.control.aa → Keeps (waits_for d t v)
  unfolding waits_for accepts
  waited d t v r l a = leads _ r l a

  interrupted : (d : Controller) (s : ℕ) (e : Edge) (v : ℕ) → length d.buffer ≡ length c.buffer → d.control.aa ≡ c.control.aa →
      Keeps (interrupts_at d s e v)
  unfolding interrupts_at accepts kind
  interrupted d s e v l a = leads _ (among-has host restful) l a

  changed : (s : ℕ) → Keeps (changes_status c s)
  unfolding changes_status accepts kind
  changed s = leads _ (among-has host restful) refl refl

  was-reset : (r : Reason) (v : ℕ) → Keeps (accepts (reset_with c.buffer r) v)
  unfolding accepts reset_with kind
  was-reset r v = resets _ (among-has off (off ∷ [])) refl refl refl

  free-restful : among (kind turn.Free) restful ≡ true
  unfolding kind
  free-restful = among-has free restful

  busy-restful : among (kind turn.Busy) restful ≡ true
  unfolding kind
  busy-restful = among-has busy restful

  listen-restful : among (kind turn.Listen) restful ≡ true
  unfolding kind
  listen-restful = among-has listen restful

  -- what goes by cases of an enum
  addressed-keeps : (m : Match) → Keeps (addressed c m)
  unfolding addressed
  addressed-keeps General = interrupted _ _ _ _ refl refl
  addressed-keeps (Own Write) = interrupted _ _ _ _ refl refl
  addressed-keeps (Own Read) = interrupted _ _ _ _ refl refl
  addressed-keeps Nothing = waited _ _ _ busy-restful refl refl

  outbid-keeps : (m : Match) → Keeps (outbid c m)
  unfolding outbid
  outbid-keeps General = interrupted _ _ _ _ refl refl
  outbid-keeps (Own Write) = interrupted _ _ _ _ refl refl
  outbid-keeps (Own Read) = interrupted _ _ _ _ refl refl
  outbid-keeps Nothing = interrupted _ _ _ _ refl refl

  data_in_keeps : (byte ackAt nackAt : ℕ) → Keeps (data_in c byte ackAt nackAt)
  unfolding data_in received
  data_in_keeps byte ackAt nackAt = let l = length-set c.buffer (cursor c) byte in search (chosen, interrupted, accepted, l)

  slave_in_keeps : (byte : ℕ) (w : Called) → Keeps (slave_in c byte w)
  unfolding slave_in
  slave_in_keeps byte called.Own = data_in_keeps byte _ _
  slave_in_keeps byte called.General = data_in_keeps byte _ _

  pub event-keeps : (number argument : ℕ) → Keeps (event_of c number argument)
  unfolding event_of event_sound own_start other_start other_stop own_stop address_byte address_lost data_lost illegal_edge data_held clock_held
      idle byte_out data_out byte_in
  event-keeps number argument =
      search (
        chosen,
        refused,
        accepted,
        waited,
        interrupted,
        changed,
        was-reset,
        free-restful,
        listen-restful,
        addressed-keeps,
        outbid-keeps,
        data_in_keeps,
        slave_in_keeps,
      ) depth 30
