-- `Listing::limits`: counts as the laws give them. Assumes nothing.
use mathlib.Core.Path.{refl, sym}
use Rattle.listing.proofs.Counts.{calls_26, length-listing}
use Rattle.lister.proofs.Listing.limits.Goals as goal

pub returns : goal.returns
returns c = record {
  calls = sym calls_26;
  lines = sym length-listing;
  room = refl;
  store = refl;
  digits = refl;
  words = refl;
  answer = refl;
}
