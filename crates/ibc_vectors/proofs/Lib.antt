mod TextsInBase64
mod StandingPaths
