-- `lister::put_script` meets its contract: the calls, a colon, the answers on a fresh desk, the
-- line's end. Assumes nothing.
use native.Mathlib.Omega.{arith}
use lib.ListN.{take}
use Rattle.lister.proofs.Puts.{line-parts}
use Rattle.lister.proofs.put_script.Goals as goal

pub put_replies-end-requires : goal.put_replies-end-requires
put_replies-end-requires c =
    let p = c.requires in
    let f = c.put_calls-calls_end.auto in
    let e = c.put_calls-calls_end.ensures.0 in
    let g = c.put_bytes-colon_end.ensures.0 in record {
      digits_nonzero = (omega (arith, p), omega (arith, p, e, f, g, c.put_bytes-colon_end.auto));
      digits_len_bound = (omega (arith, p), c.start.ensures.so);
      words_room_in_bounds = (omega (arith, p, f), omega (arith, p, c.start.auto));
    }

pub put_byte-requires : goal.put_byte-requires
put_byte-requires c =
    let p = c.requires in
    let e = c.put_replies-end.ensures.0 in
    let f = c.put_calls-calls_end.ensures.0 in
    let g = c.put_bytes-colon_end.ensures.0 in
    omega (
      arith,
      p,
      e,
      f,
      g,
      c.put_calls-calls_end.auto,
      c.put_bytes-colon_end.auto,
      c.put_replies-end.auto,
    )

pub returns : goal.returns
returns c =
    let a = c.args in
    let p = c.requires in
    let e = c.put_replies-end.ensures.0 in
    let f = c.put_calls-calls_end.ensures.0 in
    let g = c.put_bytes-colon_end.ensures.0 in record {
      out_after = line-parts (take a.at a.out.now) a.store.now a.digits.now (omega (arith, p))
          c.start.ensures.store_after c.put_calls-calls_end.ensures.1
          c.put_bytes-colon_end.ensures.1
          c.put_replies-end.ensures.1 c.put_byte.ensures.1;
      upper_bound = omega (arith, p, e, f, g, c.put_byte.ensures.0);
    }
