-- In form, the part that speaks of the store (document 01: "A desk is in form if ..").
-- version_formed, place_formed, valid_job, run_formed, site_formed, tail_formed, well_formed.
-- Header, offsets and length are the buffer's: crate layout, `in_form`.
-- Assumes nothing.
use Rattle.std.specs.Prelude.{Bool, cond, not, ◌&&◌, ◌||◌, ℕ, ◌^◌, eqb, leb, ltb}
use Rattle.std.specs.Int.Bits.{bit_or}
use Rattle.words.specs.Tests.{all_below}
use Rattle.masks.specs.Mask.{test_bit, mask_below}
use Rattle.clock.specs.Clock.{present}
use Rattle.sizes.specs.Bounds.{between}
use Rattle.sizes.specs.Runs.{max_jobs}
use Rattle.sizes.specs.declared.Counts.{Counts}
use Rattle.model.specs.Algebra.{Place, implies}
use Rattle.model.specs.Version.{Version, held}
use Rattle.model.specs.Marks.{stale_mask}
use Rattle.model.specs.Tail.{Tail, barred}
use Rattle.model.specs.Store.{Job, Branch, Run, forked_mark, joined_mark, Site, Store, planned, done_reads}
use Rattle.model.specs.Allowance.{over}

-- Only zero counts.
unfoldable pub zero_rows : Counts → Version → Bool
zero_rows z v = all_below z.keys (λ d. not (present z.writers (v.past d)))

-- Besides its issue number only zero words.
unfoldable pub zero_version : Counts → Version → Bool
zero_version z v = eqb v.leaders 0 && zero_rows z v

-- CR 3: "a held version's mask isn't zero and has no bit at W or above"
unfoldable pub leaders_formed : ℕ → ℕ → Bool
leaders_formed W m = leb 1 m && ltb m (2 ^ W)

-- "an unheld version has only zero words and a held one a non-zero own row"
unfoldable pub version_formed : Counts → ℕ → Version → Bool
version_formed z k v =
    cond (held v) (leaders_formed z.writers v.leaders && present z.writers (v.past k))
    (zero_version z v)

unfoldable pub place_formed : Counts → Place Version → Bool
place_formed z p = all_below z.keys (λ k. version_formed z k (p k))

-- "A valid job has an office below N, reads among K sheets (0 allowed), and upstream bits only of
-- lower job numbers."
unfoldable pub valid_job : Counts → ℕ → Job → Bool
valid_job z i j =
    ltb j.site z.sites && (ltb j.reads (2 ^ z.keys) && ltb j.upstream (2 ^ i))

unfoldable pub zero_job : Job → Bool
zero_job j = eqb j.site 0 && (eqb j.reads 0 && eqb j.upstream 0)

-- Nothing read, and only zero words on the card.
unfoldable pub zero_branch : Counts → Branch → Bool
zero_branch z b =
    eqb b.read 0
    && all_below z.keys (λ k. not (held (b.snapshot k)) && zero_version z (b.snapshot k))

-- "a free run is all zero"
unfoldable pub free_formed : Counts → Run → Bool
free_formed z r =
    eqb r.jobs 0 && (eqb r.done 0 && (all_below max_jobs (λ i. zero_job (r.job i))
    && (zero_branch z r.branch && (eqb r.mark 0 && zero_branch z r.second))))

-- "has 1..8 jobs, zero words beyond them, valid jobs"
unfoldable pub jobs_formed : Counts → Run → Bool
jobs_formed z r =
    between max_jobs r.jobs
    && all_below max_jobs (λ i.
    cond (ltb i r.jobs) (valid_job z i (r.job i)) (zero_job (r.job i)))

-- "a done mask below 2^jobs, a read mask that is just the done jobs' reads"; CR 10: "the read
-- masks together are the done jobs' reads"
unfoldable pub masks_formed : Counts → Run → Bool
masks_formed z r =
    ltb r.done (2 ^ r.jobs)
    && eqb (bit_or r.branch.read r.second.read)
    (mask_below z.keys (done_reads r.jobs r.job r.done))

-- CR 10: "a mark (0 never forked, 1 forked, 2 joined), a second read mask and a second card, these
-- two zero unless the mark is 1"
unfoldable pub mark_formed : Counts → Run → Bool
mark_formed z r =
    leb r.mark joined_mark && (eqb r.mark forked_mark || zero_branch z r.second)

-- "carried sheets among the plan's sheets, each read sheet on the card", of a branch
unfoldable pub snapshot_formed : Counts → Run → Branch → Bool
snapshot_formed z r b =
    place_formed z b.snapshot
    && all_below z.keys (λ k.
    implies (held (b.snapshot k)) (planned r.jobs r.job k)
    && implies (test_bit b.read k) (held (b.snapshot k)))

-- CR 10: "Form asks of each line's card what it asked of one".
unfoldable pub branches_formed : Counts → Run → Bool
branches_formed z r = snapshot_formed z r r.branch && snapshot_formed z r r.second

-- "any other run is in state 1 or 2 and .."
unfoldable pub run_formed : Counts → Run → Bool
run_formed z r =
    cond (eqb r.state 0) (free_formed z r)
    (leb r.state 2
    && (jobs_formed z r && (masks_formed z r && (mark_formed z r && branches_formed z r))))

-- CR 4: "Form asks it": the mark is true. CR 7: "one above K .. a stored one isn't in form", "No
-- shelf ever holds more (form asks it)". CR 9: "No shelf ever holds a sheet barred to its office
-- (form asks it too)", by the mask of what it may hold.
unfoldable pub site_formed : Counts → Place Version → ℕ → Site → Bool
site_formed z master right x =
    place_formed z x.cache
    && (eqb x.stale (stale_mask z master x.cache)
    && (leb x.allowance z.keys && (not (over z x x.cache)
    && not (barred z.keys right (λ k. held (x.cache k))))))

-- CR 9: "a bit at K or above .. a stored one isn't in form", of the masks of n.
unfoldable pub rights_formed : Counts → ℕ → (ℕ → ℕ) → Bool
rights_formed z n right = all_below n (λ i. ltb (right i) (2 ^ z.keys))

-- CR 8: the last picked run is "below P in form". CR 9: the masks.
unfoldable pub tail_formed : Counts → Tail → Bool
tail_formed z t =
    ltb t.round z.runs
    && (rights_formed z z.sites t.may_hold && rights_formed z z.writers t.may_save)

unfoldable pub well_formed : Store → Bool
well_formed s =
    let z = s.counts in
    place_formed z s.master
    && (all_below z.sites (λ o. site_formed z s.master (s.tail.may_hold o) (s.site o))
    && (all_below z.runs (λ r. run_formed z (s.run r)) && tail_formed z s.tail))
