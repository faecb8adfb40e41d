-- The form of a store with one part changed.
-- formed-..: with another last number, master, site, cache, allowance, writer, run or tail.
-- Assumes nothing.
use mathlib.Core.Path.{refl}
use mathlib.Core.Bool.{So}
use Prim.Native.Nat.{ℕ, ◌≤◌, ◌<◌}
use Rattle.words.specs.Lists.{put_at}
use Rattle.words.proofs.Lists.{put_at_cases}
use Rattle.model.specs.Algebra.{Place}
use Rattle.model.specs.Version.{Version}
use Rattle.model.specs.Tail.{Tail}
use Rattle.model.specs.Store.{Writer, Run, Site, Store, site_allowed, site_with, with_last, with_marks, with_master, with_sites, with_site, with_cache, with_caches, with_writer, with_run, with_tail_of}
use Rattle.model.specs.Form.{run_formed}
use Rattle.model.specs.Allowance.{held_count}
use Rattle.model.proofs.FormedPlaces.{PlaceFormed}
use Rattle.model.proofs.Formed.{Marked, Roomy, Unbarred, TailFormed, Formed}

module _ (s : Store) (F : Formed s) where
  pub formed-last : (n : ℕ) → Formed (with_last s n)
  unfolding with_last
  formed-last n =
      record {
        master = F.master;
        cache = F.cache;
        mark = F.mark;
        room = F.room;
        right = F.right;
        run = F.run;
        tail = F.tail;
      }

  -- Another master: the marks follow it.
  pub formed-master : (p : Place Version) → PlaceFormed s.counts p
      → Formed (with_marks (with_master s p))
  unfolding with_master with_marks with_caches with_sites site_with
  formed-master p G =
      record {
        master = G;
        cache = F.cache;
        mark = λ o h. refl;
        room = F.room;
        right = F.right;
        run = F.run;
        tail = F.tail;
      }

  pub formed-sites : (f : ℕ → Site)
      → ((o : ℕ) → o < s.counts.sites
      → PlaceFormed s.counts (f o).cache × Marked s (f o) × Roomy s.counts (f o)
      × Unbarred s.counts (s.tail.may_hold o) (f o).cache)
      → Formed (with_sites s f)
  unfolding with_sites
  formed-sites f G = record {
    master = F.master;
    cache = λ o h. (G o h).0;
    mark = λ o h. (G o h).1;
    room = λ o h. (G o h).2;
    right = λ o h. (G o h).3;
    run = F.run;
    tail = F.tail;
  }

  -- Another site.
  formed-site : (o : ℕ) (x : Site)
      → (o < s.counts.sites
      → PlaceFormed s.counts x.cache × Marked s x × Roomy s.counts x
      × Unbarred s.counts (s.tail.may_hold o) x.cache)
      → Formed (with_site s o x)
  formed-site o x G =
      let z = s.counts in
      formed-sites (put_at s.site o x) (λ i h.
      put_at_cases (λ (x : Site). PlaceFormed z x.cache × Marked s x × Roomy z x
      × Unbarred z (s.tail.may_hold i) x.cache) s.site o x i
      (λ e. rw e (G (rw (← e) h))) (λ _. (F.cache i h, F.mark i h, F.room i h, F.right i h)))

  pub formed-cache : (o : ℕ) (p : Place Version) → PlaceFormed s.counts p
      → held_count s.counts.keys p ≤ (s.site o).allowance
      → Unbarred s.counts (s.tail.may_hold o) p → Formed (with_cache s o p)
  unfolding with_cache site_with
  formed-cache o p G r u =
      formed-site o (site_with s (s.site o) p) (λ h. (G, refl, ((F.room o h).0, r), u))

  pub formed-caches : (p : ℕ → Place Version)
      → ((o : ℕ) → o < s.counts.sites → PlaceFormed s.counts (p o)
      × (held_count s.counts.keys (p o) ≤ (s.site o).allowance)
      × Unbarred s.counts (s.tail.may_hold o) (p o))
      → Formed (with_caches s p)
  unfolding with_caches site_with
  formed-caches p G =
      formed-sites (λ o. site_with s (s.site o) (p o))
      (λ o h. ((G o h).0, refl, ((F.room o h).0, (G o h).1), (G o h).2))

  pub formed-allowed : (o n : ℕ) → n ≤ s.counts.keys
      → held_count s.counts.keys (s.site o).cache ≤ n
      → Formed (with_site s o (site_allowed (s.site o) n))
  formed-allowed o n h r =
      formed-site o (site_allowed (s.site o) n)
      (λ i. (F.cache o i, F.mark o i, (h, r), F.right o i))

  pub formed-writer : (w : ℕ) (x : Writer) → Formed (with_writer s w x)
  unfolding with_writer
  formed-writer w x =
      record {
        master = F.master;
        cache = F.cache;
        mark = F.mark;
        room = F.room;
        right = F.right;
        run = F.run;
        tail = F.tail;
      }

  pub formed-run : (r : ℕ) (x : Run) → So (run_formed s.counts x) → Formed (with_run s r x)
  unfolding with_run
  formed-run r x G =
      let z = s.counts in
      record {
        master = F.master;
        cache = F.cache;
        mark = F.mark;
        room = F.room;
        right = F.right;
        run = λ i h.
            put_at_cases (λ (x : Run). So (run_formed z x)) s.run r x i (λ _. G)
            (λ _. F.run i h);
        tail = F.tail;
      }

  -- Another tail, whose masks have what the caches hold.
  pub formed-tail : (t : Tail) → TailFormed s.counts t
      → ((o : ℕ) → o < s.counts.sites
      → Unbarred s.counts (t.may_hold o) (s.site o).cache) → Formed (with_tail_of s t)
  unfolding with_tail_of
  formed-tail t h g = record {
    master = F.master;
    cache = F.cache;
    mark = F.mark;
    room = F.room;
    right = g;
    run = F.run;
    tail = h;
  }
